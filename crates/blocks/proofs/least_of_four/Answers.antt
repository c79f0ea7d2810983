-- `least_of_four`: the least so far, of one after the other.
use native.Mathlib.Omega.{arith}
use Rattle.std.proofs.lemmas.Int.{ints, clamps}
use Rattle.coarse.specs.Blocks.{least_from}
use Rattle.blocks.proofs.least_of_four.Goals as goal

pub returns : goal.returns
unfolding least_from
returns c = omega (arith, ints, clamps)
