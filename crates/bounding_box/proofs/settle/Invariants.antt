-- `settle`: the rows before this one are done.
use Prim.Native.Nat.{◌*◌}
use Rattle.rules.specs.Grid.{voxel}
use Rattle.loops.specs.InPlace.{Each}
use Rattle.bounding_box.specs.Bounds.{status_in}
use Rattle.bounding_box.proofs.settle.Given as goal

abbrev pub invariant-loop-row : goal.invariant-loop-row
invariant-loop-row l = Each 0 (λ k d. status_in l.b (voxel l.sides k) d) 0 (l.sides.a * l.row) l.initial.status l.status
