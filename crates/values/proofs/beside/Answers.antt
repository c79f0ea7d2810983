-- `beside` by the test.
use mir.Facts.{to_z-of_z}
use borrow.Author.Tests.{eq-eqb, ne_eqb}
use Rattle.values.proofs.beside.Goals as goal

pub returns-then-d-eq1 : goal.returns-then-d-eq1
returns-then-d-eq1 c = rw (eq-eqb _ _ c.if-d-eq1.true) (to_z-of_z c.ranges.v)

pub returns-else-d-eq1 : goal.returns-else-d-eq1
returns-else-d-eq1 c = rw (ne_eqb _ _ c.if-d-eq1.false)
