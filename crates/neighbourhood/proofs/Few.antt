-- k and m of a voxel's local test are small, and so is k - m.
use mathlib.Core.Path.{◌≡◌, sym, subst}
use mathlib.Core.List.{List}
use Prim.Native.Nat.{ℕ, ◌≤◌}
use native.Mathlib.Omega.{arith}
use lib.IntN.{ℤ, pos, nat_abs, ◌-ℤ◌}
use Rattle.cells.specs.Cells.{Test}
use Rattle.closed_sets.proofs.EveryBlock.{k-few, m-few}
use Rattle.prelude.proofs.Integers.{difference-size}
use Rattle.local_test.specs.declared.Groups.{Groups}
use Rattle.local_test.specs.Answers.{GroupsOf}
use Rattle.rules.specs.declared.Sides.{Sides}
use Rattle.rules.specs.Grid.{neighbourhood}
use Rattle.rules.specs.Status.{is_kept, test_at}

module _ (s : Sides) (status : List ℕ) (i : ℕ) (g : Groups) (e : GroupsOf (test_at s status i) g) where
  pub groups-few : (g.k ≤ 26) × (g.m ≤ 26)
  unfolding test_at
  groups-few =
      let kept = neighbourhood s (is_kept status) i in
      let k = k-few kept in
      let m = m-few kept in
      (subst (λ (x : Test). x.k ≤ 26) (sym e) (omega arith), subst (λ (x : Test). x.m ≤ 26) (sym e) (omega arith))

  pub change-few : (change : ℤ) → change ≡ pos g.k -ℤ pos g.m → nat_abs change ≤ 52
  change-few c h = subst (λ (z : ℤ). nat_abs z ≤ 52) (sym h) (omega (arith, difference-size g.k g.m 26 groups-few.0 groups-few.1))
