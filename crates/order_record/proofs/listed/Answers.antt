-- `order_record::listed` meets its contract: the first part of the array.
use borrow.Author.Rules.{rules}
use Rattle.order_record.proofs.Places.{take-listed}
use Rattle.order_record.proofs.listed.Goals as goal

pub returns : goal.returns
returns c = let o = c.args.o.now in take-listed 0 o.len o.places (search rules)
