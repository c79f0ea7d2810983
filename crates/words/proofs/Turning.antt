-- A value among the numbers of so many bytes: by its sign bit turned over, by all its bits turned, and held to what two bytes say.
use mathlib.Core.Path.{◌≡◌, sym, ap, subst, ◌∙◌}
use mathlib.Core.Logic.{⊎_elim}
use mathlib.Core.Bool.{true, false, cond}
use Rattle.std.specs.Int.{int_max, int_min}
use Prim.Native.Nat.{ℕ, suc, ◌+◌, ◌-◌, ◌*◌, ◌^◌, ◌≤◌, ◌<◌}
use native.Mathlib.Omega.{arith}
use lib.Bits.{bit_xor, xor_comm, xor_shifted, xor_block, xor_zero_r, xor_lt}
use lib.IntN.{ℤ, pos, negsuc, ◌-ℤ◌, +ℤ_idr}
use lib.Signed.{lt_z, mag}
use lib.Dec.{eqb, ltb}
use mir.Syntax.{w32}
use mir.Val.{SFits, to_z, of_z}
use mir.Facts.{to_z_pos}
use borrow.Author.Tests.{lt-ltb, le-ltb, ltb-true, ltb-false, eqb-true, eqb-false}
use Rattle.prelude.proofs.Bools.{two}
use Rattle.prelude.proofs.Signs.{below, not-below, sign}
use Rattle.rules.specs.Value.{beyond}
use Rattle.format.specs.Bytes.{signed, widened, unsigned, Holds, narrowed}
use Rattle.format.proofs.Bytes.{narrowed-mark, narrowed-other, narrowed-pos, held_below, widened-other}

-- ---- the sign bit of 16 turned over

pub turned-small : (n : ℕ) → n < 65536 → bit_xor n 32768 < 2147483648
turned-small n h = let l : bit_xor n 32768 < 65536 = xor_lt 16 n 32768 h (omega arith) in omega arith

turned_up : (n : ℕ) → n < 32768 → bit_xor n 32768 ≡ 32768 + n
turned_up n h = xor_comm n 32768 ∙ xor_shifted 1 15 n h

turned_down : (n : ℕ) → 32768 ≤ n → n < 65536 → bit_xor n 32768 ≡ n - 32768
turned_down n l h =
    let e : n ≡ 1 * 2 ^ 15 + (n - 32768) = omega arith in
    ap (λ (k : ℕ). bit_xor k 32768) e ∙ xor_block 15 1 1 (n - 32768) 0 (omega arith) (omega arith) ∙ omega (arith, xor_zero_r (n - 32768))

pub turned-over : (n : ℕ) → n < 65536 → to_z w32 (bit_xor n 32768) -ℤ pos 32768 ≡ signed 32768 n
unfolding signed
turned-over n h =
    ap (λ (z : ℤ). z -ℤ pos 32768) (to_z_pos w32 (turned-small n h))
    ∙ ⊎_elim
    (λ e.
    let q : 32768 + n - 32768 ≡ n = omega arith in
    let l : 32768 ≤ 32768 + n = omega arith in
    rw (turned_up n (ltb-true n 32768 e), e, le-ltb (32768 + n) 32768 l, q))
    (λ e.
    let l : 32768 ≤ n = ltb-false n 32768 e in
    let m : n - 32768 < 32768 = omega arith in
    let q : 32768 - suc (n - 32768) ≡ 65535 - n = omega arith in
    rw (turned_down n l h, e, lt-ltb (n - 32768) 32768 m, q))
    (two (ltb n 32768))

pub short-fits : (n : ℕ) → n < 65536 → SFits w32 (signed 32768 n)
unfolding signed
short-fits n h =
    ⊎_elim
    (λ e. rw e (record { sfits = omega (arith, ltb-true n 32768 e) }))
    (λ e. rw e (record { sfits = omega (arith, ltb-false n 32768 e) }))
    (two (ltb n 32768))

-- ---- the mark of 16 bits brought down to the one of 32

abbrev pub fallen : ℕ → ℤ
fallen n = signed 32768 n -ℤ cond (eqb n 32768) (pos 2147450880) (pos 0)

pub fallen-is : (n : ℕ) → n < 65536 → fallen n ≡ widened 32768 (signed 32768 n)
unfolding signed widened
fallen-is n h =
    ⊎_elim
    (λ e. rw (eqb-true n 32768 e))
    (λ e. rw e (+ℤ_idr (signed 32768 n) ∙ sym (widened-other 32768 n h (eqb-false n 32768 e))))
    (two (eqb n 32768))

pub fallen-fits : (n : ℕ) → n < 65536 → SFits w32 (fallen n)
unfolding signed
fallen-fits n h =
    ⊎_elim
    (λ e. rw (eqb-true n 32768 e) (record { sfits = omega arith }))
    (λ e. rw e (subst (SFits w32) (sym (+ℤ_idr (signed 32768 n))) (short-fits n h)))
    (two (eqb n 32768))

-- ---- all 32 bits

pub by_bits : (n : ℕ) → to_z w32 n ≡ signed 2147483648 n
unfolding signed
by_bits n =
    let q : 4294967296 - suc n ≡ 4294967295 - n = omega arith in
    ⊎_elim (λ e. rw e) (λ e. rw (e, q)) (two (ltb n 2147483648))

-- ---- held to what so many bytes say

-- four bytes say every value
pub all_said : (z : ℤ) → z ≡ narrowed 2147483648 z
all_said (pos n) = sym (narrowed-pos 2147483648 n)
all_said (negsuc n) =
    ⊎_elim
    (λ e. ap negsuc (eqb-true n 2147483647 e) ∙ sym (narrowed-mark 2147483648 n e))
    (λ e. sym (narrowed-other 2147483648 n e))
    (two (eqb n 2147483647))

pub held : (high : ℕ) → 32767 ≤ high → (z : ℤ) → Holds 32768 z → int_max (negsuc 32767) (int_min z (pos high)) ≡ narrowed 32768 z
unfolding beyond
held high l (pos n) m = rw (le-ltb high n (omega (arith, ltb-false 32767 n m))) (sym (narrowed-pos 32768 n))
held high l (negsuc n) m =
    ⊎_elim
    (λ e. rw (narrowed-mark 32768 n e, lt-ltb 32767 n (omega (arith, eqb-true n 2147483647 e))))
    (λ e. rw (narrowed-other 32768 n e, le-ltb 32767 n (omega (arith, held_below 32768 n m e))))
    (two (eqb n 2147483647))

-- ---- all bits turned

module _ (z : ℤ) (h : SFits w32 z) (n : ℕ) where
  pub stands : lt_z (to_z w32 (of_z w32 z)) (pos 0) ≡ false → mag z ≡ unsigned n z
  unfolding unsigned
  stands e = sym (ap (unsigned n) (not-below z (sign z h e)))

  pub stands-turned : mag z < n → lt_z (to_z w32 (of_z w32 z)) (pos 0) ≡ true → n + (n - 1 - mag z) ≡ unsigned n z
  unfolding unsigned
  stands-turned l e = let q : n + (n - 1 - mag z) ≡ n + n - 1 - mag z = omega arith in q ∙ sym (ap (unsigned n) (below z (sign z h e)))
