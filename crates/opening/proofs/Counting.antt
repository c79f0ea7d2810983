-- The change of the Euler number by an opening: k and m are small.
use mathlib.Core.Path.{◌≡◌}
use mathlib.Core.List.{List}
use Prim.Native.Nat.{ℕ}
use native.Mathlib.Omega.{arith}
use lib.IntN.{ℤ, pos, ◌-ℤ◌}
use Rattle.local_test.specs.declared.Groups.{Groups}
use Rattle.local_test.specs.Answers.{GroupsOf}
use Rattle.rules.specs.Status.{test_at}
use Rattle.rules.specs.Machine.{State}
use Rattle.neighbourhood.proofs.Few.{change-few}
use Rattle.counting.specs.Counting.{Countable}
use Rattle.counting.proofs.Counting.{countable}
use Rattle.opening.specs.Opening.{OpensAt}

module _ (g : State) (i : ℕ) (r : Groups) (e : GroupsOf (test_at g.rec.sides g.status i) r) where
  pub countable-open : (marks : List ℕ) → OpensAt marks i g → (change : ℤ) → change ≡ pos r.k -ℤ pos r.m → Countable g.rec 1 change
  countable-open marks o c h =
      let f = o.working.fit in
      let n = o.left in
      countable g f 1 c (omega (arith, f.openings)) (change-few g.rec.sides g.status i r e c h)
