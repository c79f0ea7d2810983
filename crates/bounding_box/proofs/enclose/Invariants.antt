-- `enclose`: the box of the rows before this one.
use Prim.Native.Nat.{◌*◌}
use Rattle.bounding_box.specs.Bounds.{Bounded}
use Rattle.bounding_box.proofs.enclose.Given as goal

abbrev pub invariant-loop-row : goal.invariant-loop-row
invariant-loop-row l = Bounded l.sides l.d (l.sides.a * l.row) l.b
