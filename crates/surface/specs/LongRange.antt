-- Document 02's CR 5, "The bound on surface points covers the longer range as well".
use Rattle.std.specs.Prelude.{◌≡◌, List, ℕ, Option}
use Rattle.rules.specs.Answer.{done}
use Rattle.rules.specs.Demand.{EveryBegun, Call, run}
use Rattle.surface.specs.declared.Point.{Point}
use Rattle.surface.specs.Surface.{crossing, BoundedAt}

-- for every grid that begin takes, of values from -1,000,000,000 to 1,000,000,000 or missing, and after every list of calls, what crossing answers
-- lies within the bound (proofs/LongRange.antt)
abbrev pub PointsBounded : Type 0
PointsBounded =
    EveryBegun (λ s T values marks begun.
    (calls : List Call)
    → let g = (run calls begun).end in
    (i axis : ℕ) (o : Option Point) → (crossing i axis g).answer ≡ done o → BoundedAt g.rec.sides g.dist i axis o)
