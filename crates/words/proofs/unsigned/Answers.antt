-- `words::unsigned` meets its contract.
use native.Mathlib.Omega.{arith}
use Rattle.prelude.proofs.Signs.{small, as-it-is, turned}
use Rattle.words.proofs.Turning.{stands, stands-turned}
use Rattle.words.proofs.unsigned.Goals as goal

pub overflow_cast-result : goal.overflow_cast-result
overflow_cast-result c = rw (turned _ c.ranges.v c.if-v-lt0.true) (tt, record { fits = omega (arith, small _ c.ranges.v) })

pub overflow_sub-result-then-v-lt0 : goal.overflow_sub-result-then-v-lt0
overflow_sub-result-then-v-lt0 c = rw (turned _ c.ranges.v c.if-v-lt0.true) (omega (arith, c.requires.1))

pub overflow_add-result : goal.overflow_add-result
overflow_add-result c = rw (turned _ c.ranges.v c.if-v-lt0.true) (record { fits = omega (arith, c.requires.0) })

pub overflow_cast-result-else-v-lt0 : goal.overflow_cast-result-else-v-lt0
overflow_cast-result-else-v-lt0 c = rw (as-it-is _ c.ranges.v c.if-v-lt0.false) (tt, record { fits = omega (arith, small _ c.ranges.v) })

pub returns-then-v-lt0 : goal.returns-then-v-lt0
returns-then-v-lt0 c =
    let e = stands-turned _ c.ranges.v _ c.requires.1 c.if-v-lt0.true in
    rw (turned _ c.ranges.v c.if-v-lt0.true) (e, omega (arith, c.requires.1))

pub returns-else-v-lt0 : goal.returns-else-v-lt0
returns-else-v-lt0 c =
    rw (as-it-is _ c.ranges.v c.if-v-lt0.false) (stands _ c.ranges.v _ c.if-v-lt0.false, omega (arith, c.requires.1))
