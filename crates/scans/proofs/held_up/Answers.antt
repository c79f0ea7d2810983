-- `scans::held_up` meets its contract.
use mathlib.Core.Path.{sym, ap, ◌∙◌}
use mathlib.Core.Bool.{Bool, cond}
use borrow.Author.Tests.{eq-eqb, ne_eqb}
use lib.IntN.{pos}
use mir.Facts.{to_z-of_z}
use Rattle.scans.specs.Scans.{held_up}
use Rattle.scans.proofs.held_up.Goals as goal

pub returns-then-s-eq1 : goal.returns-then-s-eq1
unfolding held_up
returns-then-s-eq1 c = let a = c.args in sym (ap (λ (t : Bool). cond t (pos 0) a.d) (eq-eqb a.s 1 c.if-s-eq1.true))

pub returns-else-s-eq1 : goal.returns-else-s-eq1
unfolding held_up
returns-else-s-eq1 c = let a = c.args in to_z-of_z c.ranges.d ∙ sym (ap (λ (t : Bool). cond t (pos 0) a.d) (ne_eqb a.s 1 c.if-s-eq1.false))
