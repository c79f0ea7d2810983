-- `pins_pair` by the two marks.
use mathlib.Core.Path.{ap₂}
use mathlib.Core.Bool.{◌||◌}
use Rattle.rules.specs.Marks.{marked}
use Rattle.block_pins.proofs.pins_pair.Goals as goal

pub returns : goal.returns
unfolding marked
returns c = ap₂ ◌||◌ c.pins.ensures c.pins-2.ensures
