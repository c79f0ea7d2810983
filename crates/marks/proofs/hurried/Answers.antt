-- `marks::hurried` meets its contract.
use mathlib.Core.Path.{ap, ◌∙◌}
use Rattle.rules.specs.Marks.{hurried_mark, marked}
use Rattle.marks.proofs.hurried.Goals as goal

pub returns : goal.returns
unfolding marked
returns c = c.hurries.ensures ∙ ap hurried_mark c.mark.ensures
