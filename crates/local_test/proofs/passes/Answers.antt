-- `local_test::passes` meets its contract: the kept voxels of a block are those of its code.
use mathlib.Core.Path.{ap, ◌∙◌}
use borrow.Author.Rules.{rules}
use Rattle.cells.specs.Cells.{passes}
use Rattle.touched_cells.proofs.Blocks.{test-in-code}
use Rattle.local_test.proofs.passes.Goals as goal

pub returns : goal.returns
returns c = c.passes_code.ensures ∙ ap passes (test-in-code c.args.block c.code_of.ensures)
