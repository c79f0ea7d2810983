-- `counted`: the missing mark is told by its bits.
use mathlib.Core.Path.{sym, ◌∙◌}
use mir.Facts.{to_z-of_z}
use Rattle.values.proofs.Signs.{counted-gap, counted-value}
use Rattle.values.proofs.counted.Goals as goal

pub returns-then-v-eqminus2147483648 : goal.returns-then-v-eqminus2147483648
returns-then-v-eqminus2147483648 c = sym (counted-gap _ c.ranges.v c.if-v-eqminus2147483648.true)

pub returns-else-v-eqminus2147483648 : goal.returns-else-v-eqminus2147483648
returns-else-v-eqminus2147483648 c = to_z-of_z c.ranges.v ∙ sym (counted-value _ c.ranges.v c.if-v-eqminus2147483648.false)
