-- The size of sums and differences of whole numbers.
use mathlib.Core.Path.{sym, subst}
use mathlib.Core.Logic.{inl, inr}
use mathlib.Core.Bool.{Bool, cond}
use Prim.Native.Nat.{ℕ, zero, suc, ◌+◌, ◌-◌, ◌≤◌}
use native.Mathlib.Omega.{arith}
use borrow.Author.Tests.{ltb-true}
use lib.Dec.{ltb}
use lib.IntN.{ℤ, pos, negsuc, nat_abs, sub_ℕ, ◌+ℤ◌, ◌-ℤ◌}
use Rattle.prelude.proofs.Bools.{two}

-- the difference of two natural numbers is no larger than a bound on both
sub-size : (a b most : ℕ) → a ≤ most → b ≤ most → nat_abs (sub_ℕ a b) ≤ most
sub-size a b most p q =
    elim (two (ltb a b)) [
      | inl e ↦
          let h = ltb-true a b e in
          let r : suc (b - suc a) ≤ most = omega arith in
          subst (λ (t : Bool). nat_abs (cond t (negsuc (b - suc a)) (pos (a - b))) ≤ most) (sym e) r
      | inr e ↦ let r : a - b ≤ most = omega arith in subst (λ (t : Bool). nat_abs (cond t (negsuc (b - suc a)) (pos (a - b))) ≤ most) (sym e) r
    ]

pub difference-size : (k m most : ℕ) → k ≤ most → m ≤ most → nat_abs (pos k -ℤ pos m) ≤ most
difference-size k zero most p q = omega arith
difference-size k (suc m) most p q = sub-size k (suc m) most p q

pub sum-size : (x y : ℤ) → nat_abs (x +ℤ y) ≤ nat_abs x + nat_abs y
sum-size (pos a) (pos b) = omega arith
sum-size (pos a) (negsuc b) = sub-size a (suc b) (a + suc b) (omega arith) (omega arith)
sum-size (negsuc a) (pos b) = let h = sub-size b (suc a) (suc a + b) (omega arith) (omega arith) in h
sum-size (negsuc a) (negsuc b) = omega arith
