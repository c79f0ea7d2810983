-- `waking::wake_one` meets its contract.
use mathlib.Core.Path.{ap₂, ◌∙◌}
use mathlib.Core.Bool.{Bool}
use borrow.Author.Rules.{sfits_of}
use lib.IntN.{ℤ}
use mir.Facts.{to_z-of_z}
use Rattle.rules.specs.Marks.{marked}
use Rattle.rules.specs.Status.{status_of}
use Rattle.waking.specs.Waking.{woken_if}
use Rattle.waking.proofs.Waking.{woken-by-sign}
use mir.Syntax.{w32}
use Rattle.waking.proofs.wake_one.Goals as goal

pub returns : goal.returns
returns c =
    let a = c.args in
    let x = status_of a.status.now a.j in
    woken-by-sign (marked a.marks.now) a.dist.now a.j a.status.now _ c.requires.0
    (c.woken_status.ensures
    ∙ ap₂ (λ (z : ℤ) (t : Bool). woken_if z t x) (to_z-of_z (sfits_of {w = w32} c.d-1.given)) c.pinned-p.ensures)
