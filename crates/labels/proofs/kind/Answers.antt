-- `kind`: the missing mark by its bits, and any other value by its sign.
use mathlib.Core.Path.{sym}
use Rattle.prelude.proofs.Signs.{sign}
use Rattle.labels.proofs.Marking.{kind-missing, kind-negative, kind-other}
use Rattle.labels.proofs.kind.Goals as goal

pub returns-then-v-eqminus2147483648 : goal.returns-then-v-eqminus2147483648
returns-then-v-eqminus2147483648 c = sym (kind-missing _ c.ranges.v c.if-v-eqminus2147483648.true)

pub returns-then-v-lt0 : goal.returns-then-v-lt0
returns-then-v-lt0 c =
    sym (kind-negative _ c.ranges.v (sign _ c.ranges.v c.if-v-lt0.true) c.if-v-eqminus2147483648.false)

pub returns-else-v-lt0 : goal.returns-else-v-lt0
returns-else-v-lt0 c = sym (kind-other _ (sign _ c.ranges.v c.if-v-lt0.false))
