-- `text::put` meets its contract.
use Rattle.text.proofs.Writing.{put-before}
use borrow.Author.Rules.{rules}
use Rattle.text.proofs.put.Goals as goal

pub returns : goal.returns
returns c = put-before c.args.out.now c.args.at c.args.byte (search rules) (search rules)
