-- `first_marks::marked_status` meets its contract: each return by the tests that led there.
use native.Mathlib.Omega.{arith}
use Rattle.std.proofs.lemmas.Grind.{common_steps}
use Rattle.prelude.proofs.Signs.{held-negative}
use Rattle.first_marks.specs.FirstMarks.{marked_status}
use Rattle.first_marks.proofs.marked_status.Goals as goal

pub returns-then-x-eq0 : goal.returns-then-x-eq0
unfolding marked_status
returns-then-x-eq0 c = let h = held-negative c.ranges.d in grind (arith, common_steps)

pub returns-then-hurried : goal.returns-then-hurried
unfolding marked_status
returns-then-hurried c = let h = held-negative c.ranges.d in grind (arith, common_steps)

pub returns-then-pinned : goal.returns-then-pinned
unfolding marked_status
returns-then-pinned c = let h = held-negative c.ranges.d in grind (arith, common_steps)

pub returns-else-pinned : goal.returns-else-pinned
unfolding marked_status
returns-else-pinned c = let h = held-negative c.ranges.d in grind (arith, common_steps)
