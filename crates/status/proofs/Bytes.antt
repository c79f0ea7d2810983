-- What a status byte says, by its bits; of two bytes joined; and with bit 1 set.
use mathlib.Core.Path.{◌≡◌, refl, sym, ap, ap₂, ◌∙◌}
use mathlib.Core.Logic.{inl, inr}
use mathlib.Core.Bool.{Bool, true, false, cond, ◌&&◌, ◌||◌}
use Prim.Native.Nat.{ℕ, ◌+◌, ◌*◌, ◌/◌, ◌%◌, ◌≤◌, min}
use native.Mathlib.Omega.{arith}
use native.Mathlib.Nat.{div-one}
use native.Mathlib.Decide.{ℕ_discrete}
use borrow.Author.Tests.{eqb-true, eqb-false, ne_eqb}
use lib.Bits.{bit_and, bit_or, and_step, and_mask, or_add_and}
use lib.Dec.{eqb}
use mir.Val.{bool_byte}
use Rattle.cells.specs.Cells.{bit}
use Rattle.prelude.proofs.Bools.{two}
use Rattle.bits.specs.Bits.{has}
use Rattle.bits.proofs.Bits.{has-and, has-or}
use Rattle.rules.specs.Status.{kept_byte, pending_byte, woken}

-- a test says the same either way round
pub eqb-turned : (m n : ℕ) → eqb m n ≡ eqb n m
eqb-turned m n = elim (ℕ_discrete m n) [ yes e ↦ rw e | no k ↦ ne_eqb m n k ∙ sym (ne_eqb n m (λ e. k (sym e))) ]

-- a test as a number
pub as_number : (t : Bool) {u : Bool} → t ≡ u → (bool_byte t ≡ bit u) × (bool_byte t ≤ 1)
as_number true e = (ap bit e, omega arith)
as_number false e = (ap bit e, omega arith)

pub kept-bit : (x : ℕ) → has x 0 ≡ kept_byte x
unfolding has kept_byte
kept-bit x = ap (λ (y : ℕ). eqb (y % 2) 1) (div-one x)

pub pending-bit : (x : ℕ) → has x 1 ≡ pending_byte x
unfolding has pending_byte
pending-bit x = refl

-- ---- two bytes joined

pub kept_and : (x y : ℕ) {p : Bool} → kept_byte y ≡ p → kept_byte (bit_and x y) ≡ kept_byte x && p
kept_and x y e = sym (kept-bit (bit_and x y)) ∙ has-and x y 0 ∙ ap₂ ◌&&◌ (kept-bit x) (kept-bit y ∙ e)

pub pending-or : (x y : ℕ) → pending_byte (bit_or x y) ≡ pending_byte x || pending_byte y
pending-or x y = sym (pending-bit (bit_or x y)) ∙ has-or x y 1 ∙ ap₂ ◌||◌ (pending-bit x) (pending-bit y)

-- ---- bit 1 set

module _ (x : ℕ) where
  pub pending-stays : pending_byte x ≡ true → woken x ≡ x
  unfolding woken
  pending-stays e = ap (λ (t : Bool). cond t x (x + 2)) e

  idle-wakes : pending_byte x ≡ false → woken x ≡ x + 2
  unfolding woken
  idle-wakes e = ap (λ (t : Bool). cond t x (x + 2)) e

  pub woken-or : bit_or x 2 ≡ woken x
  unfolding pending_byte
  woken-or =
      let s : bit_and x 2 ≡ bit_and (x / 2) 1 * 2 + min (x % 2) 0 = and_step x 2 in
      let m : bit_and (x / 2) 1 ≡ x / 2 % 2 = and_mask (x / 2) 1 in
      let z : min (x % 2) 0 ≡ 0 = omega arith in
      let o = or_add_and x 2 in
      elim (two (pending_byte x)) [
        | inl e ↦ (let h : x / 2 % 2 ≡ 1 = eqb-true (x / 2 % 2) 1 e in let q : bit_or x 2 ≡ x = omega arith in q ∙ sym (pending-stays e))
        | inr e ↦
            (let n = eqb-false (x / 2 % 2) 1 e in
            let h : x / 2 % 2 ≡ 0 = omega arith in
            let q : bit_or x 2 ≡ x + 2 = omega arith in
            q ∙ sym (idle-wakes e))
      ]
