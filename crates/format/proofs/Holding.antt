-- Values that so many bytes can say: each of them, those of a layer, and that the width of a grid is wide enough.
use mathlib.Core.Path.{◌≡◌, refl, ap, ◌∙◌}
use mathlib.Core.Logic.{inl, inr, ⊎_elim}
use mathlib.Core.Bool.{Bool, true, false, cond, not, ◌&&◌}
use mathlib.Core.List.{List}
use Prim.Native.Nat.{ℕ, ◌-◌, ◌≤◌, ◌<◌}
use native.Mathlib.Omega.{arith}
use lib.Dec.{leb}
use lib.ListN.{length, take, drop, get_or}
use lib.IntN.{ℤ, pos, negsuc}
use borrow.Author.Tests.{le-ltb, lt-leb, ltb-false, leb-false}
use Rattle.prelude.specs.Lists.{any}
use Rattle.prelude.proofs.Bools.{and-false, and_zero}
use Rattle.prelude.proofs.Lists.{any_false, false-any, none-at, none-split}
use Rattle.rules.specs.Value.{is_missing, beyond, stray}
use Rattle.format.specs.Bytes.{half, Holds}
use Rattle.format.specs.Written.{width_for, Held}

-- none of a part of a list, from one index on
pub none_between : {A : Type 0} (p : A → Bool) (k n : ℕ) (xs : List A) → any p xs ≡ false → any p (take k (drop n xs)) ≡ false
none_between p k n xs e = (none-split p k (drop n xs) (none-split p n xs e).1).0

-- ---- by bounds

beyond-less : (low high : ℕ) → low ≤ high → (v : ℤ) → beyond low v ≡ false → beyond high v ≡ false
unfolding beyond
beyond-less low high l (pos v) e = le-ltb high v (omega (arith, ltb-false low v e))
beyond-less low high l (negsuc v) e =
    ⊎_elim
    (λ f. ap (λ (t : Bool). t && not (is_missing (negsuc v))) (lt-leb high v (omega (arith, leb-false low v f))))
    (λ f. ap (λ (t : Bool). leb high v && t) f ∙ and_zero (leb high v))
    (and-false (leb low v) (not (is_missing (negsuc v))) e)

none-beyond : (low high : ℕ) → low ≤ high → (vs : List ℤ) → any (beyond low) vs ≡ false → any (beyond high) vs ≡ false
none-beyond low high l vs e = false-any (beyond high) vs (λ v m. beyond-less low high l v (any_false (beyond low) vs e v m))

-- ---- values held

module _ {width : ℕ} {values : List ℤ} (h : Held width values) where
  pub held_at : (i : ℕ) → i < length values → Holds (half width) (get_or values i (pos 0))
  held_at i k = none-at (beyond (half width - 1)) (pos 0) values h.each i k

  pub held-between : (k n : ℕ) → Held width (take k (drop n values))
  held-between k n = record { two-or-four = h.two-or-four; each = none_between (beyond (half width - 1)) k n values h.each }

-- two bytes say what is not beyond 32,767, four say all that is not stray
pub held : (values : List ℤ) → any stray values ≡ false → Held (width_for values) values
unfolding width_for
held values known = go (any (beyond 32767) values) refl
  where
    go : (t : Bool) → any (beyond 32767) values ≡ t → Held (cond t 4 2) values
    go true e = record { two-or-four = inr refl; each = none-beyond 1000000000 2147483647 (omega arith) values known }
    go false e = record { two-or-four = inl refl; each = e }

-- a grid that is written narrow has no stray value
pub narrow-known : (values : List ℤ) → width_for values ≡ 2 → any stray values ≡ false
unfolding width_for
narrow-known values e = go (any (beyond 32767) values) refl e
  where
    go : (t : Bool) → any (beyond 32767) values ≡ t → ◌≡◌ {A = ℕ} (cond t 4 2) 2 → any stray values ≡ false
    go true f w = let z : ⊥ = omega arith in absurd z
    go false f w = none-beyond 32767 1000000000 (omega arith) values f
