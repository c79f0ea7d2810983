-- The lowest set bit of a number, and the number without it.
use mathlib.Core.Path.{◌≡◌, refl, sym, ap, ap₂, ◌∙◌, subst}
use mathlib.Core.Bool.{Bool, true, false, ◌&&◌}
use Prim.Native.Nat.{ℕ, zero, suc, ◌+◌, ◌-◌, ◌*◌, ◌/◌, ◌%◌, ◌^◌, ◌≤◌, ◌<◌}
use native.Mathlib.Nat.{div-one, pow-suc}
use native.Mathlib.Omega.{arith}
use lib.Dec.{eqb}
use lib.Count.{count_trailing_zeros, under}
use Rattle.prelude.proofs.Bools.{and_zero, not-both}
use Rattle.bits.specs.Bits.{has}
use Rattle.bits.proofs.Bits.{has-shr, has-and}
use Rattle.bits.specs.Lowest.{Lowest}

-- ---- the digits of a number are its lowest, and those of its half

pub has-low : (x : ℕ) → has x 0 ≡ eqb (x % 2) 1
unfolding has
has-low x = ap (λ (y : ℕ). eqb (y % 2) 1) (div-one x)

pub has-next : (x c : ℕ) → has x (suc c) ≡ has (x / 2) c
has-next x c = let e : suc c ≡ 1 + c = omega arith in ap (has x) e ∙ sym (has-shr x 1 c)

-- a number and the one before it, where t is the lowest set bit of d
record Before (d m t : ℕ) : Type 0 where
  below : t < d
  here : has m t ≡ true
  least : (c : ℕ) → has m c ≡ true → t ≤ c
  gone : has (m - 1) t ≡ false
  others : (c : ℕ) → (c ≡ t → ⊥) → has m c && has (m - 1) c ≡ has m c

and_self : (p : Bool) → p && p ≡ p
and_self true = refl
and_self false = refl

low-is : (x r : ℕ) → x % 2 ≡ r → has x 0 ≡ eqb r 1
low-is x r e = has-low x ∙ ap (λ (y : ℕ). eqb y 1) e

before-odd : (d m : ℕ) → m % 2 ≡ 1 → Before (suc d) m 0
before-odd d m e =
    let z : (m - 1) % 2 ≡ 0 = omega arith in
    record { below = omega arith; here = low-is m 1 e; least = λ c q. omega arith; gone = low-is (m - 1) 0 z; others = others }
  where
    others : (c : ℕ) → (c ≡ 0 → ⊥) → has m c && has (m - 1) c ≡ has m c
    others zero n = absurd (n refl)
    others (suc c) n =
        let h : (m - 1) / 2 ≡ m / 2 = omega arith in
        ap (λ (b : Bool). has m (suc c) && b) (has-next (m - 1) c ∙ ap (λ (y : ℕ). has y c) h ∙ sym (has-next m c)) ∙ and_self (has m (suc c))

before-even : (d m t : ℕ) → 0 < m → m % 2 ≡ 0 → Before d (m / 2) t → Before (suc d) m (suc t)
before-even d m t p e B =
    let b = B.below in
    record { below = omega arith; here = has-next m t ∙ B.here; least = least; gone = half t ∙ B.gone; others = others }
  where
    least : (c : ℕ) → has m c ≡ true → suc t ≤ c
    least zero q = not-both (has m 0) q (low-is m 0 e)
    least (suc c) q = let l = B.least c (sym (has-next m c) ∙ q) in omega arith

    half : (c : ℕ) → has (m - 1) (suc c) ≡ has (m / 2 - 1) c
    half c = let h : (m - 1) / 2 ≡ m / 2 - 1 = omega arith in has-next (m - 1) c ∙ ap (λ (y : ℕ). has y c) h

    others : (c : ℕ) → (c ≡ suc t → ⊥) → has m c && has (m - 1) c ≡ has m c
    others zero n = ap (λ (b : Bool). b && has (m - 1) 0) (low-is m 0 e) ∙ sym (low-is m 0 e)
    others (suc c) n = ap₂ ◌&&◌ (has-next m c) (half c) ∙ B.others c (λ q. n (ap suc q)) ∙ sym (has-next m c)

before-low :
    (d m : ℕ) → 0 < m → (r : ℕ) → m % 2 ≡ r → (m % 2 ≡ 0 → Before d (m / 2) (count_trailing_zeros d (m / 2)))
    → Before (suc d) m (under r (count_trailing_zeros d (m / 2)))
before-low d m p zero e half = before-even d m (count_trailing_zeros d (m / 2)) p e (half e)
before-low d m p (suc zero) e half = before-odd d m e
before-low d m p (suc (suc r)) e half = let z : ⊥ = omega arith in absurd z

before : (d m : ℕ) → 0 < m → m < 2 ^ d → Before d m (count_trailing_zeros d m)
unfolding count_trailing_zeros
before zero m p h = let l : m < 1 = h in let z : ⊥ = omega arith in absurd z
before (suc d) m p h =
    let l : m < 2 ^ d * 2 = subst (λ (y : ℕ). m < y) (pow-suc 2 d) h in
    before-low d m p (m % 2) refl (λ e. before d (m / 2) (omega arith) (omega arith))

pub lowest-is : (m : ℕ) → 0 < m → m < 2 ^ 64 → Lowest m (count_trailing_zeros 64 m)
lowest-is m p h =
    let B = before 64 m p h in
    let t = count_trailing_zeros 64 m in
    record {
      below = B.below;
      here = B.here;
      least = B.least;
      gone = has-and m (m - 1) t ∙ ap (λ (b : Bool). has m t && b) B.gone ∙ and_zero (has m t);
      others = λ c n. has-and m (m - 1) c ∙ B.others c n;
    }
