-- `touched_cells::code_of` meets its contract: the layers side by side.
use lib.Dec.{lit≤}
use Rattle.bits.specs.Bits.{bits}
use Rattle.bits.proofs.Bits.{three}
use Rattle.touched_cells.specs.Block.{layer_bit, block_bit}
use Rattle.touched_cells.proofs.code_of.Goals as goal

pub layer_code-requires : goal.layer_code-requires
layer_code-requires c = c.requires.few 0

pub layer_code-requires-2 : goal.layer_code-requires-2
layer_code-requires-2 c = c.requires.few 1

pub layer_code-requires-3 : goal.layer_code-requires-3
layer_code-requires-3 c = c.requires.few 2

pub returns : goal.returns
unfolding bits layer_bit block_bit
returns c =
    three 64 18 (block_bit c.args.block) (lit≤ tt) c.layer_code.ensures c.layer_code-2.ensures c.layer_code-3.ensures
