-- `words::fall` meets its contract.
use native.Mathlib.Omega.{arith}
use borrow.Author.Tests.{eq-eqb, ne_eqb}
use Rattle.words.proofs.fall.Goals as goal

pub returns-then-n-eq32768 : goal.returns-then-n-eq32768
returns-then-n-eq32768 c = rw (eq-eqb c.args.n 32768 (omega (arith, c.if-n-eq32768.true)))

pub returns-else-n-eq32768 : goal.returns-else-n-eq32768
returns-else-n-eq32768 c = rw (ne_eqb c.args.n 32768 (λ e. let z : ⊥ = omega (arith, c.if-n-eq32768.false) in z))
