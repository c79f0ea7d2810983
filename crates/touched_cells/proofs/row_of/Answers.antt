-- `touched_cells::row_of` meets its contract: the low six bits.
use native.Mathlib.Omega.{arith}
use lib.Bits.{and_le_r}
use lib.Dec.{lit<}
use Rattle.bits.specs.Bits.{has, bits}
use Rattle.bits.proofs.Bits.{masked}
use Rattle.touched_cells.proofs.row_of.Goals as goal

pub overflow_cast-result : goal.overflow_cast-result
overflow_cast-result c = record { fits = omega (arith, and_le_r c.args.code 63) }

pub returns : goal.returns
unfolding has bits
returns c = masked 6 c.args.code 63 (lit< tt)
