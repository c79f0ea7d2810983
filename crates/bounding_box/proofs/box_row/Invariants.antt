-- `box_row`: of the voxels from low to high those before this one are done.
use Rattle.std.proofs.Common.{cond, eqb}
use Rattle.loops.specs.InPlace.{Each}
use Rattle.bounding_box.proofs.box_row.Given as goal

abbrev pub invariant-loop-d : goal.invariant-loop-d
invariant-loop-d l = Each 0 (λ k d. cond (eqb d 0) 1 l.other) 0 l.d-index l.initial.d-items l.d-items
