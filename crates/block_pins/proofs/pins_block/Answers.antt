-- `pins_block`: four pairs are eight voxels.
use mathlib.Core.Path.{ap₂, ◌∙◌}
use mathlib.Core.Bool.{◌||◌}
use Rattle.block_pins.proofs.Pins.{any-corners}
use Rattle.block_pins.proofs.pins_block.Goals as goal

pub returns : goal.returns
returns c =
    ap₂ ◌||◌ (ap₂ ◌||◌ c.pins_pair.ensures c.pins_pair-2.ensures) (ap₂ ◌||◌ c.pins_pair-3.ensures c.pins_pair-4.ensures)
    ∙ any-corners _ _ _ _
