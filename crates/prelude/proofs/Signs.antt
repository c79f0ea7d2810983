-- A signed number of 32 bits as the machine holds it, and its magnitude in 64 bits.
use mathlib.Core.Path.{◌≡◌, refl, sym, ap, ap₂, ◌∙◌, subst}
use mathlib.Core.Logic.{inl, inr}
use mathlib.Core.Bool.{Bool, true, false, not, ◌||◌, true≢false}
use Prim.Native.Nat.{ℕ, suc, ◌-◌, ◌^◌, ◌≤◌, ◌<◌}
use native.Mathlib.Omega.{arith}
use borrow.Author.Tests.{ltb-true, ltb-false, lt-ltb, le-ltb}
use lib.Dec.{T, ltb}
use lib.Bits.{bit_or, or_lt, or_add_and, and_le_l, and_le_r}
use lib.IntN.{ℤ, pos, negsuc, nat_abs, ◌-ℤ◌, +ℤ_idl}
use lib.Signed.{lt_z, mag, non_neg}
use mir.Syntax.{w32, w64}
use mir.Val.{Fits, SFits, to_z, of_z, sel}
use mir.Facts.{to_z-of_z, to_z_pos, sfits_widen}
use Rattle.prelude.proofs.Bools.{two}
use Rattle.prelude.specs.Integers.{is_negative}

pub negative-test : (z : ℤ) → lt_z z (pos 0) ≡ is_negative z
negative-test (pos n) = le-ltb n 0 (omega arith)
negative-test (negsuc n) = refl

-- the test `z < 0`
pub held-negative : {z : ℤ} → SFits w32 z → lt_z (to_z w32 (of_z w32 z)) (pos 0) ≡ is_negative z
held-negative {z} h = ap (λ (x : ℤ). lt_z x (pos 0)) (to_z-of_z h) ∙ negative-test z

-- ---- a number by its sign, and by all its bits turned

pub below : (z : ℤ) → lt_z z (pos 0) ≡ true → z ≡ negsuc (mag z)
below (pos n) e = let l = ltb-true n 0 e in let z : ⊥ = omega arith in absurd z
below (negsuc n) e = refl

pub not-below : (z : ℤ) → lt_z z (pos 0) ≡ false → z ≡ pos (mag z)
not-below (pos n) e = refl
not-below (negsuc n) e = absurd (true≢false e)

module _ (z : ℤ) (h : SFits w32 z) where
  pub small : mag z < 2147483648
  small = h.sfits

  pub sign : {t : Bool} → lt_z (to_z w32 (of_z w32 z)) (pos 0) ≡ t → lt_z z (pos 0) ≡ t
  sign {t} e = subst (λ (x : ℤ). lt_z x (pos 0) ≡ t) (to_z-of_z h) e

  pub as-it-is : lt_z (to_z w32 (of_z w32 z)) (pos 0) ≡ false → to_z w32 (of_z w32 z) ≡ pos (mag z)
  as-it-is e = to_z-of_z h ∙ not-below z (sign e)

  pub turned : lt_z (to_z w32 (of_z w32 z)) (pos 0) ≡ true → to_z w32 (4294967295 - of_z w32 z) ≡ pos (mag z)
  turned e =
      let k : 4294967295 - (4294967296 - suc (mag z)) ≡ mag z = omega (arith, small) in
      ap (λ (x : ℤ). to_z w32 (4294967295 - of_z w32 x)) (below z (sign e)) ∙ ap (to_z w32) k ∙ to_z_pos w32 small

-- ---- in 64 bits

pub widened : {z : ℤ} → SFits w32 z → SFits w64 (to_z w32 (of_z w32 z))
widened {z} h = subst (λ (x : ℤ). SFits w64 x) (sym (to_z-of_z h)) (sfits_widen tt h)

abbrev pub wide : ℤ → ℤ
wide z = to_z w64 (of_z w64 (to_z w32 (of_z w32 z)))

pub wide_back : {z : ℤ} → SFits w32 z → wide z ≡ z
wide_back h = to_z-of_z (widened h) ∙ to_z-of_z h

pub size_small : (z : ℤ) → SFits w32 z → nat_abs z ≤ 2147483648
size_small (pos n) h = let l : n < 2 ^ 31 = h.sfits in omega arith
size_small (negsuc n) h = let l : n < 2 ^ 31 = h.sfits in omega arith

abbrev Casts : ℤ → Type 0
Casts z = T (non_neg z) × Fits w64 (nat_abs z)

module _ {z : ℤ} (h : SFits w32 z) where
  module _ (e : is_negative z ≡ true) where
    minus : (x : ℤ) → is_negative x ≡ true → pos 0 -ℤ x ≡ pos (nat_abs x)
    minus (pos n) e = absurd (true≢false (sym e))
    minus (negsuc n) e = +ℤ_idl (pos (suc n))

    minus_is : pos 0 -ℤ wide z ≡ pos (nat_abs z)
    minus_is = ap (λ (x : ℤ). pos 0 -ℤ x) (wide_back h) ∙ minus z e

    pub minus-fits : SFits w64 (pos 0 -ℤ wide z)
    minus-fits = subst (λ (x : ℤ). SFits w64 x) (sym minus_is) (record { sfits = let l = size_small z h in let q : nat_abs z < 2 ^ 63 = omega arith in q })

    minus-back : to_z w64 (of_z w64 (pos 0 -ℤ wide z)) ≡ pos (nat_abs z)
    minus-back = to_z-of_z minus-fits ∙ minus_is

    pub minus-casts : Casts (to_z w64 (of_z w64 (pos 0 -ℤ wide z)))
    minus-casts = let l = size_small z h in subst (λ (x : ℤ). Casts x) (sym minus-back) (tt, record { fits = omega arith })

    pub minus-size : nat_abs (to_z w64 (of_z w64 (pos 0 -ℤ wide z))) ≡ nat_abs z
    minus-size = ap nat_abs minus-back

  pub plus-casts : is_negative z ≡ false → Casts (wide z)
  plus-casts e = subst (λ (x : ℤ). Casts x) (sym (wide_back h)) (go z h e)
    where
      go : (x : ℤ) → SFits w32 x → is_negative x ≡ false → Casts x
      go (pos n) f e = (tt, let l : n < 2 ^ 31 = f.sfits in record { fits = omega arith })
      go (negsuc n) f e = absurd (true≢false e)

  pub plus-size : nat_abs (wide z) ≡ nat_abs z
  plus-size = ap nat_abs (wide_back h)

-- ---- joined bits need more than k bits exactly where one of the numbers does

abbrev pub high : ℕ → ℕ → Bool
high k n = not (ltb n (2 ^ k))

pub high-joined : (k a b : ℕ) → high k (bit_or a b) ≡ high k a || high k b
high-joined k a b =
    elim (two (ltb a (2 ^ k))) [
      | inl e ↦ elim (two (ltb b (2 ^ k))) [
        | inl f ↦ ap not (lt-ltb (bit_or a b) (2 ^ k) (or_lt k a b (ltb-true a _ e) (ltb-true b _ f))) ∙ ap₂ (λ (p q : Bool). not p || not q) (sym e) (sym f)
        | inr f ↦
            ap not (le-ltb (bit_or a b) (2 ^ k) (omega (arith, or_add_and a b, and_le_l a b, ltb-false b (2 ^ k) f)))
            ∙ ap₂ (λ (p q : Bool). not p || not q) (sym e) (sym f)
      ]
      | inr e ↦
          ap not (le-ltb (bit_or a b) (2 ^ k) (omega (arith, or_add_and a b, and_le_r a b, ltb-false a (2 ^ k) e)))
          ∙ ap (λ (p : Bool). not p || high k b) (sym e)
    ]

-- ---- the sign as a bit

-- whether the bits are those of a negative number
abbrev pub sign_bit : ℕ → Bool
sign_bit n = high 31 n

pub sign_read : (n : ℕ) → lt_z (to_z w32 n) (pos 0) ≡ sign_bit n
sign_read n =
    elim (two (ltb n 2147483648)) [
      | inl e ↦ ap (λ (x : ℤ). lt_z x (pos 0)) (to_z_pos w32 (ltb-true n 2147483648 e)) ∙ le-ltb n 0 (omega arith) ∙ ap not (sym e)
      | inr e ↦ ap (λ (t : Bool). lt_z (sel t (pos n) (negsuc (2 ^ 32 - suc n))) (pos 0)) e ∙ ap not (sym e)
    ]

pub sign-held : (z : ℤ) → SFits w32 z → sign_bit (of_z w32 z) ≡ is_negative z
sign-held (pos n) h = let l : n < 2 ^ 31 = h.sfits in ap not (lt-ltb n 2147483648 l)
sign-held (negsuc n) h = let l : n < 2 ^ 31 = h.sfits in ap not (le-ltb (2 ^ 32 - suc n) 2147483648 (omega arith))
