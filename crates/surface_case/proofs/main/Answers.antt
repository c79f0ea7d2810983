-- `surface_case::main` meets its contract: each point follows from the rule by computation.
use mathlib.Core.Path.{ap, ◌∙◌}
use Rattle.std.specs.Prelude.{Option}
use Prim.Native.Nat.{ℕ}
use lib.Ieee.{Float, binary64, of_bits, eq}
use Rattle.rules.specs.Answer.{Outcome, Buffers}
use Rattle.surface.specs.declared.Point.{Point}
use Rattle.surface.proofs.Worked.{rule}
use Rattle.surface_case.specs.Points.{is_point}
use Rattle.surface_case.proofs.main.Goals as goal

abbrev double : ℕ → Float
double bits = of_bits binary64 bits

-- (1.5, 1, 1)
pub expect-requires : goal.expect-requires
unfolding rule of_bits eq
expect-requires c =
    c.is_point.ensures
    ∙ ap (λ (o : Outcome Buffers (Option Point)). is_point (double 4609434218613702656) (double 4607182418800017408) (double 4607182418800017408) o.answer)
    c.crossing.ensures.status_value

-- (1, 0.5, 1)
pub expect-requires-2 : goal.expect-requires-2
unfolding rule of_bits eq
expect-requires-2 c =
    c.is_point-2.ensures
    ∙ ap (λ (o : Outcome Buffers (Option Point)). is_point (double 4607182418800017408) (double 4602678819172646912) (double 4607182418800017408) o.answer)
    c.crossing-2.ensures.status_value

-- (1, 1, 1.5 + 2 ^ -33)
pub expect-requires-3 : goal.expect-requires-3
unfolding rule of_bits eq
expect-requires-3 c =
    c.is_point-3.ensures
    ∙ ap (λ (o : Outcome Buffers (Option Point)). is_point (double 4607182418800017408) (double 4607182418800017408) (double 4609434218614226944) o.answer)
    c.crossing-3.ensures.status_value
