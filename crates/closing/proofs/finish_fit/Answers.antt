-- `closing::finish_fit` meets its contract.
use borrow.Author.Rules.{rules}
use Rattle.rules.specs.Machine.{State, state}
use Rattle.closing.proofs.Finishing.{finished-is, same-record}
use Rattle.closing.proofs.finish_fit.Goals as goal
use Rattle.closing.proofs.finish_fit.Goals.{Start}

abbrev lent-to : Start → State
lent-to c = state c.args.given c.args.dist.now c.args.status.now

pub returns : goal.returns
returns c =
    finished-is (lent-to (goal.at.returns c).Start) _ _ c.requires.statuses c.close.ensures (same-record c.args.given _ (search rules))
