-- `marks::pinned` meets its contract.
use mathlib.Core.Path.{ap, ◌∙◌}
use Rattle.rules.specs.Marks.{pinned_mark, marked}
use Rattle.marks.proofs.pinned.Goals as goal

pub returns : goal.returns
unfolding marked
returns c = c.pins.ensures ∙ ap pinned_mark c.mark.ensures
