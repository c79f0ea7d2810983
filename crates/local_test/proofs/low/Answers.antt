-- `local_test::low` meets its contract.
use native.Mathlib.Omega.{arith}
use lib.Bits.{and_le_r}
use Rattle.bits.proofs.Bits.{low}
use Rattle.local_test.proofs.low.Goals as goal

pub overflow_cast-result : goal.overflow_cast-result
overflow_cast-result c = record { fits = omega (arith, and_le_r c.args.x 1) }

pub returns : goal.returns
returns c = (low c.args.x, and_le_r c.args.x 1)
