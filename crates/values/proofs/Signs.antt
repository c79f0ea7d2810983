-- Tests of a signed value: of the machine's bits, and of the number.
use mathlib.Core.Path.{◌≡◌, refl, sym, ap, ap₂, ◌∙◌}
use mathlib.Core.Logic.{⊎_elim}
use mathlib.Core.Bool.{Bool, true, false, not, cond, ◌&&◌, ◌||◌}
use mathlib.Core.List.{List, map}
use Prim.Native.Nat.{ℕ, zero, suc, ◌+◌, ◌-◌, ◌%◌, ◌^◌, ◌≤◌, ◌<◌, max}
use native.Mathlib.Omega.{arith}
use borrow.Author.Tests.{ltb-true, ltb-false, lt-ltb, le-ltb, eq-eqb, ne_eqb, eqb-true, eqb-false}
use lib.Bits.{bit_or, or_mod}
use lib.IntN.{ℤ, pos, negsuc, nat_abs}
use lib.Signed.{lt_z, le_z, mag}
use lib.Dec.{eqb, leb, ltb, leb-suc-suc}
use mir.Syntax.{w32}
use mir.Val.{SFits, to_z, of_z}
use mir.Facts.{to_z-of_z, to_z_pos, to_z-neg}
use Rattle.prelude.proofs.Bools.{two, and_zero, and_one, or-zero, both_ways}
use Rattle.prelude.proofs.Signs.{below, not-below, turned, high, high-joined}
use Rattle.rules.specs.Value.{is_missing, beyond, stray, measured_negative, measured_non_negative, amount}
use Rattle.std.specs.Int.{int_max}
use Rattle.cells.specs.Groups.{filter}
use Rattle.rules.specs.Grid.{range, value_at}
use Rattle.rules.specs.Begin.{greatest}
use Rattle.rules.proofs.LongRange.{amount-high}
use Rattle.values.specs.Values.{counted_as, worked_to, counts}

-- the missing mark by its bits
mark-bits : (n : ℕ) → SFits w32 (negsuc n) → eqb (of_z w32 (negsuc n)) 2147483648 ≡ eqb n 2147483647
mark-bits n h =
    both_ways (eqb (of_z w32 (negsuc n)) 2147483648) (eqb n 2147483647)
    (λ e. eq-eqb n 2147483647 (ap mag (sym (to_z-of_z h) ∙ ap (to_z w32) (eqb-true (of_z w32 (negsuc n)) 2147483648 e))))
    (λ e. eq-eqb (of_z w32 (negsuc n)) 2147483648 (ap (λ (x : ℕ). of_z w32 (negsuc x)) (eqb-true n 2147483647 e)))

negative-is : (z : ℤ) → SFits w32 z → (lt_z z (pos 0) && not (eqb (of_z w32 z) 2147483648)) ≡ measured_negative z
unfolding measured_negative is_missing
negative-is (pos n) h = ap (λ (t : Bool). t && not (eqb n 2147483648)) (le-ltb n 0 (omega arith))
negative-is (negsuc n) h = ap not (mark-bits n h)

pub negative-test : (z : ℤ) → SFits w32 z → (lt_z (to_z w32 (of_z w32 z)) (pos 0) && not (eqb (of_z w32 z) 2147483648)) ≡ measured_negative z
negative-test z h = ap (λ (x : ℤ). lt_z x (pos 0) && not (eqb (of_z w32 z) 2147483648)) (to_z-of_z h) ∙ negative-is z h

-- ---- number 28: of a number and its complement, the one that is not negative is held against the bound

-- of high, a number, its complement and its bits
abbrev tested : ℤ → ℤ → ℤ → ℕ → Bool
tested high v w bits = (lt_z high v || le_z high w) && not (eqb bits 2147483648)

complement : (n : ℕ) → n < 2 ^ 31 → to_z w32 (4294967295 - n) ≡ negsuc n
complement n l = let e : 4294967295 - n ≡ 4294967296 - suc n = omega arith in ap (to_z w32) e ∙ to_z-neg w32 n l

beyond-is : (bound : ℕ) (z : ℤ) → SFits w32 z → tested (pos bound) z (to_z w32 (4294967295 - of_z w32 z)) (of_z w32 z) ≡ beyond bound z
unfolding beyond is_missing
beyond-is bound (pos n) h =
    ap₂ (λ (w : ℤ) (t : Bool). (ltb bound n || le_z (pos bound) w) && not t) (complement n h.sfits)
    (ne_eqb n 2147483648 (λ e. let l : n < 2 ^ 31 = h.sfits in let z : ⊥ = omega arith in z))
    ∙ and_one (ltb bound n || false)
    ∙ or-zero (ltb bound n)
beyond-is bound (negsuc n) h =
    ap₂ (λ (w : ℤ) (t : Bool). le_z (pos bound) w && not t) (turned (negsuc n) h (ap (λ (v : ℤ). lt_z v (pos 0)) (to_z-of_z h))) (mark-bits n h)

pub beyond-test : (bound : ℕ) (z : ℤ) → bound < 2147483648 → SFits w32 z
    → tested (to_z w32 bound) (to_z w32 (of_z w32 z)) (to_z w32 (4294967295 - of_z w32 z)) (of_z w32 z) ≡ beyond bound z
beyond-test bound z l h =
    ap₂ (λ (high v : ℤ). tested high v (to_z w32 (4294967295 - of_z w32 z)) (of_z w32 z)) (to_z_pos w32 l) (to_z-of_z h) ∙ beyond-is bound z h

-- ---- the width of a grid

-- a size that 15 bits do not hold, the missing mark's left out
abbrev pub long : ℕ → Bool
long n = high 15 (n % 2147483648)

pub long-joined : (a b : ℕ) → long (bit_or a b) ≡ long a || long b
long-joined a b = ap (high 15) (or_mod a b 31) ∙ high-joined 15 (a % 2147483648) (b % 2147483648)

long-from : (n : ℕ) → n < 2 ^ 31 → long n ≡ ltb 32767 n
long-from n l =
    let e : n % 2147483648 ≡ n = omega arith in
    ap (high 15) e
    ∙ ⊎_elim
    (λ t. rw (t, le-ltb 32767 n (omega (arith, ltb-true n 32768 t))))
    (λ f. rw (f, lt-ltb 32767 n (omega (arith, ltb-false n 32768 f))))
    (two (ltb n 32768))

pub long-size : (z : ℤ) → SFits w32 z → long (nat_abs z) ≡ beyond 32767 z
unfolding beyond is_missing
long-size (pos n) h = long-from n h.sfits
long-size (negsuc n) h =
    ⊎_elim
    (λ e. ap (λ (k : ℕ). long (suc k)) (eqb-true n 2147483647 e) ∙ sym (ap (λ (t : Bool). leb 32767 n && not t) e ∙ and_zero (leb 32767 n)))
    (λ e.
    let l : n < 2 ^ 31 = h.sfits in
    long-from (suc n) (let d = eqb-false n 2147483647 e in omega arith)
    ∙ leb-suc-suc 32767 n
    ∙ sym (ap (λ (t : Bool). leb 32767 n && not t) e ∙ and_one (leb 32767 n)))
    (two (eqb n 2147483647))

-- ---- M

-- M over the voxels below i
abbrev pub most : List ℤ → List ℕ → ℕ → ℕ
most values d i = greatest 1 (map (λ k. amount (value_at values k)) (filter (counts values d) (range 0 i)))

-- M with one voxel more: the greater of M so far and the voxel's value, or 0 where it does not count
greater-is : (g : ℕ) (v : ℤ) (t : Bool)
    → int_max (pos g) (cond t v (pos 0)) ≡ pos (cond (measured_non_negative v && t) (max (amount v) g) g)
unfolding measured_non_negative
greater-is g v false =
    ⊎_elim
    (λ e. let l = ltb-true 0 g e in rw (e, and_zero (measured_non_negative v)))
    (λ e. let l = ltb-false 0 g e in rw (e, and_zero (measured_non_negative v)) (ap pos (let q : 0 ≡ g = omega arith in q)))
    (two (ltb 0 g))
greater-is g (negsuc n) true = refl
greater-is g (pos n) true =
    ⊎_elim
    (λ e. let l = ltb-true n g e in rw e (ap pos (let q : g ≡ max n g = omega arith in q)))
    (λ e. let l = ltb-false n g e in rw e (ap pos (let q : n ≡ max n g = omega arith in q)))
    (two (ltb n g))

-- the same, where M and the voxel's part in it are at hand as integers
pub raised : {m : ℕ} (d : ℕ) {x r w : ℤ} (v : ℤ) → x ≡ pos m → r ≡ int_max x w → w ≡ cond (eqb d 1) v (pos 0)
    → r ≡ pos (cond (measured_non_negative v && eqb d 1) (max (amount v) m) m)
raised {m} d v x-is e f = e ∙ ap₂ int_max x-is f ∙ greater-is m v (eqb d 1)

-- no value that begin takes makes M greater than the range
pub in-range : {m : ℕ} (t : Bool) (v : ℤ) → stray v ≡ false → m ≤ 1000000000 → cond t (max (amount v) m) m ≤ 1000000000
in-range false v e h = h
in-range true v e h = let l = amount-high v e in omega arith

-- ---- worked distances

-- the missing mark is the one value whose bits are 2^31
pub missing-bits : (z : ℤ) → SFits w32 z → eqb (of_z w32 z) 2147483648 ≡ is_missing z
unfolding is_missing
missing-bits (pos n) h = ne_eqb n 2147483648 (λ e. let l : n < 2 ^ 31 = h.sfits in let z : ⊥ = omega arith in z)
missing-bits (negsuc n) h = mark-bits n h

pub counted-gap : (z : ℤ) → SFits w32 z → of_z w32 z ≡ 2147483648 → counted_as z ≡ negsuc 0
unfolding counted_as
counted-gap z h e = rw (sym (missing-bits z h) ∙ eq-eqb (of_z w32 z) 2147483648 e)

pub counted-value : (z : ℤ) → SFits w32 z → (of_z w32 z ≡ 2147483648 → ⊥) → counted_as z ≡ z
unfolding counted_as
counted-value z h n = rw (sym (missing-bits z h) ∙ ne_eqb (of_z w32 z) 2147483648 n)

pub worked-in : (m : ℕ) (v : ℤ) (d : ℕ) → d ≡ 0 → worked_to m v d ≡ counted_as v
unfolding worked_to
worked-in m v d e = ap (worked_to m v) e

pub worked-neg : (m : ℕ) (v : ℤ) (d : ℕ) → d ≡ 1 → lt_z v (pos 0) ≡ true → worked_to m v d ≡ pos m
unfolding worked_to measured_non_negative
worked-neg m v d e t = ap (worked_to m v) e ∙ ap (λ (b : Bool). cond b v (pos m)) (ap measured_non_negative (below v t))

pub worked-pos : (m : ℕ) (v : ℤ) (d : ℕ) → d ≡ 1 → lt_z v (pos 0) ≡ false → worked_to m v d ≡ v
unfolding worked_to measured_non_negative
worked-pos m v d e t = ap (worked_to m v) e ∙ ap (λ (b : Bool). cond b v (pos m)) (ap measured_non_negative (not-below v t))

pub worked-far : (m : ℕ) (v : ℤ) (d : ℕ) → (d ≡ 0 → ⊥) → (d ≡ 1 → ⊥) → worked_to m v d ≡ pos (m + d)
unfolding worked_to
worked-far m v zero n k = absurd (n refl)
worked-far m v (suc zero) n k = absurd (k refl)
worked-far m v (suc (suc d)) n k = refl
