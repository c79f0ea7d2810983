-- `capi::looks::wattlerugby_local_test_9` meets its contract: the test of the block whose kept voxels are the bits.
use mathlib.Core.Path.{◌∙◌}
use borrow.Author.Rules.{rules}
use Rattle.touched_cells.proofs.Blocks.{unpacked-test}
use Rattle.capi.proofs.looks.wattlerugby_local_test_9.Goals as goal

pub local_test-requires : goal.local_test-requires
local_test-requires c = c.block_of.ensures.rows

pub returns : goal.returns
returns c =
    c.local_test.ensures ∙ unpacked-test c.args.kept c.block_of.result c.block_of.ensures
