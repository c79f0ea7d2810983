-- `marks::used` meets its contract.
use native.Mathlib.Omega.{arith}
use borrow.Author.Tests.{eq-eqb, ne_eqb}
use Rattle.marks.specs.Lent.{used_of}
use Rattle.marks.proofs.used.Goals as goal

pub returns-then-all-eq0 : goal.returns-then-all-eq0
unfolding used_of
returns-then-all-eq0 c = (simp (eq-eqb _ _ c.if-all-eq0.true), omega arith)

pub returns-else-all-eq0 : goal.returns-else-all-eq0
unfolding used_of
returns-else-all-eq0 c = (simp (ne_eqb _ _ c.if-all-eq0.false), omega arith)
