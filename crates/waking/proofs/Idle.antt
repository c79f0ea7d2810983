-- The idle positions of a neighbourhood as bits: what is kept, without what is pending.
use mathlib.Core.Path.{◌≡◌, refl, sym, ap, ap₂, ◌∙◌}
use mathlib.Core.Logic.{inl, inr}
use mathlib.Core.Bool.{Bool, true, false, not, ◌&&◌, true≢false}
use Prim.Native.Nat.{ℕ, ◌+◌, ◌*◌, ◌/◌, ◌%◌, ◌^◌, ◌≤◌, ◌<◌}
use native.Mathlib.Omega.{arith}
use native.Mathlib.Nat.{div-eq_of_lt, lt_of_le_of_lt}
use borrow.Author.Tests.{eqb-true, eq-eqb, ltb-true, ltb-false}
use lib.Dec.{eqb, ltb, lit<}
use lib.Pow.{pow_mono}
use lib.Bits.{bit_and, bit_xor, and_le_l, and_le_r}
use Rattle.prelude.proofs.Bools.{two, and-true, true-and, not-both}
use Rattle.bits.specs.Bits.{has, bits}
use Rattle.bits.proofs.Bits.{has-and, has-shr, bits-has, has-bits, bits-ext, bits-xor, bits-lt, unlike, below}
use Rattle.waking.specs.Waking.{idle_at, idle_bit}

-- ---- above a number's bits there are none

pub has-beyond : (n x c : ℕ) → x < 2 ^ n → n ≤ c → has x c ≡ false
unfolding has
has-beyond n x c h l =
    let m : 2 ^ n ≤ 2 ^ c = pow_mono l in
    let k : x < 2 ^ c = omega arith in
    ap (λ (y : ℕ). eqb (y % 2) 1) (div-eq_of_lt k)

pub has-below : (n x c : ℕ) → x < 2 ^ n → has x c ≡ true → c < n
has-below n x c h e = elim (two (ltb c n)) [ inl t ↦ ltb-true c n t | inr t ↦ not-both (has x c) e (has-beyond n x c h (ltb-false c n t)) ]

-- ---- the mask of even bits without the middle

abbrev mask : ℕ
mask = 0x0015555551555555

abbrev unlike-not : Bool → Bool → Bool
unlike-not p q = not (unlike p q)

mask-has : (c : ℕ) → c < 54 → has mask c ≡ eqb (c % 2) 0 && not (eqb (c / 2) 13)
mask-has c h =
    same _ _ (unfold has in below 54 (λ c. unlike-not (has mask c) (eqb (c % 2) 0 && not (eqb (c / 2) 13))) refl c h)
  where
    same : (p q : Bool) → unlike-not p q ≡ true → p ≡ q
    same true true e = refl
    same true false e = absurd (true≢false (sym e))
    same false true e = absurd (true≢false (sym e))
    same false false e = refl

-- ---- the bits

left : (p q r t : Bool) → unlike (p && (q && r)) ((p && (q && r)) && t) ≡ p && (q && (r && not t))
left true true true true = refl
left true true true false = refl
left true true false t = refl
left true false r t = refl
left false q r t = refl

module _ (code : ℕ) where
  abbrev kept : ℕ
  kept = bit_and code mask

  abbrev pending : ℕ
  pending = bit_and kept (code / 2 ^ 1)

  few : kept < 2 ^ 54
  few = lt_of_le_of_lt (and_le_r code mask) (lit< tt)

  idle-has : (c : ℕ) → c < 54 → unlike (has kept c) (has pending c) ≡ idle_bit code c
  unfolding idle_bit
  idle-has c h = go (eqb (c % 2) 0) refl
    where
      kept-has : has kept c ≡ (eqb (c % 2) 0 && not (eqb (c / 2) 13)) && has code c
      kept-has = has-and code mask c ∙ turn (has code c) (has mask c) ∙ ap (λ (t : Bool). t && has code c) (mask-has c h)
        where
          turn : (p q : Bool) → p && q ≡ q && p
          turn true true = refl
          turn true false = refl
          turn false true = refl
          turn false false = refl

      pending-has : has pending c ≡ has kept c && has code (c + 1)
      pending-has =
          let e : 1 + c ≡ c + 1 = omega arith in
          has-and kept (code / 2 ^ 1) c ∙ ap (λ (t : Bool). has kept c && t) (has-shr code 1 c ∙ ap (has code) e)

      both : unlike (has kept c) (has pending c) ≡ unlike (has kept c) (has kept c && has code (c + 1))
      both = ap (unlike (has kept c)) pending-has

      go : (t : Bool) → eqb (c % 2) 0 ≡ t → unlike (has kept c) (has pending c) ≡ t && idle_at code (c / 2)
      go true e =
          let z : c % 2 ≡ 0 = eqb-true (c % 2) 0 e in
          let d : c ≡ 2 * (c / 2) = omega arith in
          both
          ∙ ap (λ (x : Bool). unlike x (x && has code (c + 1))) (kept-has ∙ ap (λ (t : Bool). (t && not (eqb (c / 2) 13)) && has code c) e)
          ∙ middle (not (eqb (c / 2) 13)) (has code c) (has code (c + 1))
          ∙ ap (λ (n : ℕ). not (eqb (c / 2) 13) && (has code n && not (has code (n + 1)))) d
        where
          middle : (q r t : Bool) → unlike (q && r) ((q && r) && t) ≡ q && (r && not t)
          middle true true true = refl
          middle true true false = refl
          middle true false t = refl
          middle false r t = refl
      go false e = both ∙ ap (λ (x : Bool). unlike x (x && has code (c + 1))) (kept-has ∙ ap (λ (t : Bool). (t && not (eqb (c / 2) 13)) && has code c) e)

  pub idle-bits : bit_xor kept pending ≡ bits 54 (idle_bit code)
  idle-bits =
      ap₂ bit_xor (bits-has 54 kept few) (bits-has 54 pending (lt_of_le_of_lt (and_le_l kept (code / 2 ^ 1)) few))
      ∙ bits-xor 54 (has kept) (has pending) ∙ bits-ext 54 _ (idle_bit code) idle-has

  -- ---- what a set bit says, and what sets one

  abbrev idle : ℕ
  idle = bits 54 (idle_bit code)

  pub idle-few : idle < 2 ^ 54
  idle-few = bits-lt 54 (idle_bit code)

  pub idle-position : (t : ℕ) → has idle t ≡ true → (t / 2 < 27) × (idle_at code (t / 2) ≡ true)
  unfolding idle_bit
  idle-position t e =
      let h = has-below 54 idle t idle-few e in
      (omega arith, (and-true (eqb (t % 2) 0) (idle_at code (t / 2)) (sym (has-bits 54 (idle_bit code) t h) ∙ e)).1)

  pub position-idle : (p : ℕ) → p < 27 → idle_at code p ≡ true → has idle (2 * p) ≡ true
  unfolding idle_bit
  position-idle p h e =
      let d : 2 * p / 2 ≡ p = omega arith in
      let z : 2 * p % 2 ≡ 0 = omega arith in
      has-bits 54 (idle_bit code) (2 * p) (omega arith)
      ∙ true-and (eqb (2 * p % 2) 0) (idle_at code (2 * p / 2)) (eq-eqb (2 * p % 2) 0 z) (ap (idle_at code) d ∙ e)
