-- `points::list` meets its contract. The loop's invariant: what is left of the walk gives the whole walk's answer and buffer.
use Rattle.points.specs.Positions.{point_on}
use Rattle.points.proofs.Walking.{Going}
use Rattle.points.proofs.list.Given as goal

abbrev pub invariant-loop-p : goal.invariant-loop-p
invariant-loop-p l = Going (point_on l.sides l.dist) l.position l.end l.initial.out l.out l.count l.p
