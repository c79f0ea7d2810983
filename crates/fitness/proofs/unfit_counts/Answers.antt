-- `fitness::unfit_counts` meets its contract.
use mathlib.Core.Path.{ap, ap₂, ◌∙◌}
use mathlib.Core.Bool.{◌||◌}
use Prim.Native.Nat.{ℕ, ◌*◌}
use lib.Dec.{ltb}
use lib.IntN.{nat_abs}
use mir.Syntax.{w32}
use mir.Val.{SFits}
use mir.Facts.{to_z-of_z}
use borrow.Author.Rules.{rules}
use Rattle.rules.specs.Machine.{unfit_counts}
use Rattle.fitness.proofs.unfit_counts.Goals as goal

pub returns : goal.returns
unfolding unfit_counts
returns c =
    let r = c.args.given in
    let f : SFits w32 r.euler = search rules in
    ap₂
    (λ (n e : ℕ). ltb r.allowed r.openings || (ltb n r.removals || (ltb (27 * n) r.examinations || ltb (8 * n) e)))
    c.requires.0 (c.from-euler.ensures ∙ c.unsigned_abs.ensures.value ∙ ap nat_abs (to_z-of_z f))
