-- `entries::index_of` meets its contract.
use native.Mathlib.Omega.{arith}
use Rattle.entries.proofs.index_of.Goals as goal

pub word-requires : goal.word-requires
word-requires c = omega arith
