-- Signed sums of small numbers, as the machine holds them.
use mathlib.Core.Path.{◌≡◌, sym, ap₂, ◌∙◌, subst}
use Prim.Native.Nat.{◌^◌, ◌≤◌, ◌<◌}
use native.Mathlib.Omega.{arith}
use lib.IntN.{ℤ, pos, negsuc, nat_abs, ◌+ℤ◌}
use mir.Syntax.{w32}
use mir.Val.{SFits, to_z, of_z}
use mir.Facts.{to_z-of_z}
use Rattle.prelude.proofs.Integers.{sum-size}

pub small-fits : (z : ℤ) → nat_abs z ≤ 16777216 → SFits w32 z
small-fits (pos n) h = record { sfits = let q : n < 2 ^ 31 = omega arith in q }
small-fits (negsuc n) h = record { sfits = let q : n < 2 ^ 31 = omega arith in q }

module _ (x y : ℤ) (fx : SFits w32 x) (fy : SFits w32 y) (hx : nat_abs x ≤ 2097152) (hy : nat_abs y ≤ 52) where
  abbrev held : ℤ
  held = to_z w32 (of_z w32 x) +ℤ to_z w32 (of_z w32 y)

  held-is : held ≡ x +ℤ y
  held-is = ap₂ ◌+ℤ◌ (to_z-of_z fx) (to_z-of_z fy)

  pub sum_fits : SFits w32 held
  sum_fits = subst (λ (z : ℤ). SFits w32 z) (sym held-is) (small-fits _ (omega (arith, sum-size x y)))

  pub sum_is : to_z w32 (of_z w32 held) ≡ x +ℤ y
  sum_is = to_z-of_z sum_fits ∙ held-is
