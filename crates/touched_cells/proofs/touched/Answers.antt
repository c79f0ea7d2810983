-- `touched_cells::touched` meets its contract: what the kept voxels of its code touch.
use mathlib.Core.Path.{◌∙◌}
use Rattle.touched_cells.proofs.Blocks.{touched-in-code}
use Rattle.touched_cells.proofs.touched.Goals as goal

pub returns : goal.returns
returns c = c.spread.ensures ∙ touched-in-code c.args.block c.code_of.ensures
