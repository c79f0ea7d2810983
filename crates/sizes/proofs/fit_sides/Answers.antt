-- `sizes::fit_sides` meets its contract.
use Rattle.std.proofs.Common.{rules}
use Rattle.rules.specs.Grid.{fit_sides}
use Rattle.sizes.proofs.fit_sides.Goals as goal

pub returns-then-fit_side-2 : goal.returns-then-fit_side-2
unfolding fit_sides
returns-then-fit_side-2 c = search rules

pub returns-else-fit_side-2 : goal.returns-else-fit_side-2
unfolding fit_sides
returns-else-fit_side-2 c = search rules
