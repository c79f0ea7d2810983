-- `gridfile::records_refusal` meets its contract.
use Rattle.gridfile.proofs.Checking.{Reached}
use Rattle.gridfile.proofs.records_refusal.Given as goal

abbrev pub invariant-loop-next : goal.invariant-loop-next
invariant-loop-next l = Reached l.sides l.file l.start l.next
