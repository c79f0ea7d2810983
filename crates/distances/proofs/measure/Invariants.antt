-- `measure`: the layers before this one are swept along x, and then along y.
use Rattle.std.proofs.Common.{true, false}
use Rattle.distances.proofs.Advancing.{Advancing}
use Rattle.distances.proofs.measure.Given as goal

abbrev pub invariant-loop-z : goal.invariant-loop-z
invariant-loop-z l = Advancing true l.b l.a l.initial.d l.d l.z

abbrev pub invariant-loop-z-2 : goal.invariant-loop-z-2
invariant-loop-z-2 l = Advancing false l.a l.b l.initial.d l.d l.z
