-- `replace` meets its contract: the ways up of `Nodes`.
use Rattle.winners.proofs.Nodes.{Rising}
use Rattle.winners.proofs.replace.Given as goal

abbrev pub invariant-loop-i : goal.invariant-loop-i
invariant-loop-i l = Rising l.p l.initial.tree l.tree l.i l.g

abbrev pub decreases-loop-i : goal.decreases-loop-i
decreases-loop-i l = l.i
