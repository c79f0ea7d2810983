-- `first_marks::mark_statuses`: the voxels before i have the status that their marks ask for.
use Rattle.rules.specs.Marks.{marked}
use Rattle.loops.specs.InPlace.{Each}
use Rattle.first_marks.specs.FirstMarks.{marked_status_at}
use Rattle.first_marks.proofs.mark_statuses.Given as goal

abbrev pub invariant-loop-i : goal.invariant-loop-i
invariant-loop-i l = Each 0 (marked_status_at l.dist (marked l.marks)) 0 l.i l.initial.status l.status
