-- `lift` meets its contract: the way up, to the root or to a node that is great enough.
use Rattle.winners.proofs.Nodes.{Lifting}
use Rattle.winners.proofs.lift.Given as goal

abbrev pub invariant-loop-i : goal.invariant-loop-i
invariant-loop-i l = Lifting l.p l.k l.w l.initial.tree l.tree l.i

abbrev pub decreases-loop-i : goal.decreases-loop-i
decreases-loop-i l = l.i
