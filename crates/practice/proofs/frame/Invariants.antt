-- `frame`: the rows before this one have the border's values.
use Rattle.std.proofs.Common.{◌*◌, pos}
use Rattle.loops.specs.InPlace.{Each}
use Rattle.practice.specs.Work.{framed_at}
use Rattle.practice.proofs.frame.Given as goal

abbrev pub invariant-loop-row : goal.invariant-loop-row
invariant-loop-row l = Each (pos 0) (framed_at l.sides) 0 (l.sides.a * l.row) l.initial.values l.values
