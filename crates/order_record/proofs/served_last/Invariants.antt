-- `order_record::served_last` meets its contract: the places that are not this one, in their order, and then it.
use Rattle.order_record.proofs.Places.{Shifting}
use Rattle.order_record.proofs.served_last.Given as goal

abbrev pub invariant-loop-other : goal.invariant-loop-other
invariant-loop-other l = Shifting l.other-items l.place l.after l.len l.other-index
