-- `halved` by its rule.
use borrow.Author.Rules.{rules}
use Rattle.coarse.specs.Blocks.{halved}
use Rattle.blocks.proofs.halved.Goals as goal

pub returns : goal.returns
unfolding halved
returns c = search rules
