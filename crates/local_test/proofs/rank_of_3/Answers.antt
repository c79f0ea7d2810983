-- `local_test::rank_of_3` meets its contract.
use borrow.Author.Rules.{rules}
use Rattle.bits.proofs.Bits.{has-or, has-and}
use Rattle.local_test.proofs.rank_of_3.Goals as goal

pub returns : goal.returns
returns c = (simp (c.low.ensures.0, c.low-2.ensures.0, has-or, has-and), search rules)
