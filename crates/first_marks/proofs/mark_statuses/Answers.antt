-- `first_marks::mark_statuses`: the voxels before i have the status that their marks ask for.
use mathlib.Core.Path.{◌∙◌}
use native.Mathlib.Omega.{arith}
use borrow.Author.Rules.{rules}
use mir.Facts.{to_z-of_z}
use mir.Syntax.{w32}
use mir.Val.{SFits}
use Rattle.rules.specs.Grid.{distance_at}
use Rattle.rules.specs.Marks.{marked}
use Rattle.loops.proofs.InPlace.{each_none, each_more}
use Rattle.rules.specs.Status.{status_of}
use Rattle.first_marks.specs.FirstMarks.{marked_status}
use Rattle.first_marks.proofs.mark_statuses.Goals as goal

pub loop-i-init : goal.loop-i-init
loop-i-init c = each_none _ _ _ _ _ (omega arith)

pub loop-i-preserved : goal.loop-i-preserved
unfolding marked
loop-i-preserved c =
    let a = c.args in
    let f : SFits w32 (distance_at a.dist.now c.loop-i.i) = search rules in
    each_more _ _ _ c.loop-i.i _ c.loop-i.status c.marked_status.result (omega arith) (omega (arith, c.loop-i.invariant.len)) c.loop-i.invariant
    (c.marked_status.ensures ∙ (λ j. marked_status (to_z-of_z f j) (c.hurries.ensures j) (c.pins.ensures j) (status_of c.loop-i.status c.loop-i.i)))
