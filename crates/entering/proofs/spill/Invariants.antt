-- `entering::spill` meets its contract.
use Rattle.rules.specs.Marks.{marked}
use Rattle.queue.proofs.Steps.{Spilling}
use Rattle.entering.proofs.spill.Given as goal

abbrev pub invariant-loop-e : goal.invariant-loop-e
invariant-loop-e l =
    Spilling (marked l.marks) l.dist l.status l.initial.offsets l.initial.tree l.initial.front l.offsets l.tree l.front l.head l.e
