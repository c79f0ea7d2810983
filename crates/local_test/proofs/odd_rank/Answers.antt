-- `local_test::odd_rank` meets its contract: bit by bit.
use borrow.Author.Rules.{rules}
use Rattle.bits.proofs.Bits.{has-or, has-and, has-shr}
use Rattle.local_test.proofs.odd_rank.Goals as goal

pub returns : goal.returns
returns c = (simp (c.rank_of_4.ensures.0, has-or, has-and, has-shr), c.rank_of_4.ensures.1)
