-- `writing::width_for` meets its contract.
use mathlib.Core.Path.{◌≡◌, ap}
use mathlib.Core.Bool.{Bool, cond}
use Rattle.format.specs.Written.{width_for}
use Rattle.writing.proofs.width_for.Goals as goal
use Rattle.writing.proofs.width_for.Goals.{After-any_long}

-- the width, by whether the scan of the values found one that two bytes cannot say
width_is : (c : After-any_long) → cond c.any_long.result 4 2 ≡ width_for c.args.values.now
unfolding width_for
width_is c = ap (λ (t : Bool). cond t 4 2) c.any_long.ensures

pub returns-then-any_long : goal.returns-then-any_long
returns-then-any_long c = rw c.if-any_long.true at (width_is (goal.at.returns-then-any_long c).After-any_long)

pub returns-else-any_long : goal.returns-else-any_long
returns-else-any_long c = rw c.if-any_long.false at (width_is (goal.at.returns-else-any_long c).After-any_long)
