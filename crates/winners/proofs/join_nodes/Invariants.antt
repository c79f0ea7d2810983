-- `join_nodes` meets its contract: each node after its children.
use Rattle.winners.proofs.Nodes.{Joining}
use Rattle.winners.proofs.join_nodes.Given as goal

abbrev pub invariant-loop-i : goal.invariant-loop-i
invariant-loop-i l = Joining l.p l.initial.tree l.tree l.i
