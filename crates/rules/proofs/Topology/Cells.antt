-- The cells of a body: what `covered` says, and how their numbers change when one voxel goes.
use mathlib.Core.Path.{◌≡◌, refl, ap, ap₂, sym, ◌∙◌}
use mathlib.Core.Logic.{◌⊎◌, inl, inr, ◌≢◌}
use mathlib.Core.Bool.{Bool, true, false, ◌||◌}
use Prim.Native.Nat.{ℕ, zero, suc, ◌+◌, ◌*◌, ◌≤◌, ◌<◌}
use native.Mathlib.Omega.{arith}
use native.Mathlib.Decide.{ℕ_discrete}
use lib.IntN.{pos, ◌+ℤ◌, ◌-ℤ◌}
use Rattle.cells.specs.Cells.{bit}
use Rattle.prelude.proofs.Bools.{true-or, or-true}
use Rattle.prelude.proofs.Differences.{add-difference}
use Rattle.rules.specs.declared.Sides.{Sides}
use Rattle.rules.specs.Body.{Voxels, Piece, plane, stretch, some, covered, Has, Holder, CoveredIsHeld, sum3, corners, edges, faces, cubes, euler_of}
use Rattle.rules.proofs.Topology.Sum.{win, win3, Off, local3, win3-all}

some_in : (p : Piece) (t : ℕ → Bool) → some p t ≡ true → (j : ℕ) × (Has j p) × (t j ≡ true)
unfolding some
some_in (plane zero) t e = (zero, inl refl, e)
some_in (plane (suc i)) t e = elim (or-true (t i) (t (suc i)) e) [ inl h ↦ (i, inr refl, h) | inr h ↦ (suc i, inl refl, h) ]
some_in (stretch i) t e = (i, refl, e)

pub some_out : (p : Piece) (t : ℕ → Bool) (j : ℕ) → Has j p → t j ≡ true → some p t ≡ true
unfolding some
some_out (plane zero) t j (inl e) h = ap t (sym e) ∙ h
some_out (plane zero) t j (inr e) h = let z : ⊥ = omega arith in absurd z
some_out (plane (suc i)) t j (inl e) h = true-or (t i) (t (suc i)) (inr (ap t (sym e) ∙ h))
some_out (plane (suc i)) t j (inr e) h = let q : i ≡ j = omega arith in true-or (t i) (t (suc i)) (inl (ap t q ∙ h))
some_out (stretch i) t j e h = ap t (sym e) ∙ h

pub some-ext : (p : Piece) (t u : ℕ → Bool) → ((j : ℕ) → Has j p → t j ≡ u j) → some p t ≡ some p u
unfolding some
some-ext (plane zero) t u h = h zero (inl refl)
some-ext (plane (suc i)) t u h = ap₂ ◌||◌ (h i (inr refl)) (h (suc i) (inl refl))
some-ext (stretch i) t u h = h i refl

pub some-none : (p : Piece) (t : ℕ → Bool) → ((j : ℕ) → Has j p → t j ≡ false) → some p t ≡ false
unfolding some
some-none (plane zero) t h = h zero (inl refl)
some-none (plane (suc i)) t h = ap₂ ◌||◌ (h i (inr refl)) (h (suc i) (inl refl))
some-none (stretch i) t h = h i refl

pub covered-in : (body : Voxels) (p q r : Piece) → covered body p q r ≡ true → Holder body p q r
unfolding covered
covered-in body p q r e =
    let a = some_in p (λ x. some q (λ y. some r (λ z. body x y z))) e in
    let b = some_in q (λ y. some r (λ z. body a.0 y z)) a.2 in
    let c = some_in r (λ z. body a.0 b.0 z) b.2 in
    record { x = a.0; y = b.0; z = c.0; has-x = a.1; has-y = b.1; has-z = c.1; is-in = c.2 }

pub covered_out : (body : Voxels) (p q r : Piece) → Holder body p q r → covered body p q r ≡ true
unfolding covered
covered_out body p q r h =
    some_out p (λ x. some q (λ y. some r (λ z. body x y z))) h.x h.has-x (
    some_out q (λ y. some r (λ z. body h.x y z)) h.y h.has-y (
    some_out r (λ z. body h.x h.y z) h.z h.has-z h.is-in))

pub covered-is-held : CoveredIsHeld
covered-is-held body p q r = (covered-in body p q r, covered_out body p q r)

-- ---- the kinds of pieces: a voxel has two planes and one stretch

abbrev pub piece : Bool → ℕ → Piece
piece true i = plane i
piece false i = stretch i

abbrev pub width : Bool → ℕ
width true = 2
width false = 1

-- how many pieces of a kind there are along a side of n voxels
abbrev pub extent : Bool → ℕ → ℕ
extent true n = suc n
extent false n = n

off-has : (k : Bool) (x i j : ℕ) → Off (width k) x i → Has j (piece k i) → j ≢ x
off-has true x i j (inl o) (inl m) e = omega arith
off-has true x i j (inl o) (inr m) e = omega arith
off-has true x i j (inr o) (inl m) e = omega arith
off-has true x i j (inr o) (inr m) e = omega arith
off-has false x i j (inl o) m e = omega arith
off-has false x i j (inr o) m e = omega arith

width_has : (k : Bool) (x i : ℕ) → x ≤ i → i < x + width k → Has x (piece k i)
width_has true x i a b = elim (ℕ_discrete x i) [ yes e ↦ inl e | no n ↦ inr (omega arith) ]
width_has false x i a b = omega arith

extent-fits : (k : Bool) (x n : ℕ) → x < n → x + width k ≤ extent k n
extent-fits true x n h = omega arith
extent-fits false x n h = omega arith

-- 1 for a cell of the given kinds that is the body's
abbrev is_covered : Voxels → Bool → Bool → Bool → ℕ → ℕ → ℕ → ℕ
is_covered body k l m i j h = bit (covered body (piece k i) (piece l j) (piece m h))

-- the cells of three kinds along the axes: of the grid, and of the voxel (x, y, z)
unfoldable pub count : Sides → Bool → Bool → Bool → Voxels → ℕ
count s k l m body = sum3 (extent k s.a) (extent l s.b) (extent m s.c) (is_covered body k l m)

unfoldable pub count_at : (x y z : ℕ) → Bool → Bool → Bool → Voxels → ℕ
count_at x y z k l m body = win3 (width k) (width l) (width m) x y z (is_covered body k l m)

-- the voxel (x, y, z) goes: one body has it, the other has it not, and they agree elsewhere
pub record Gone (s : Sides) (x y z : ℕ) (before after : Voxels) : Type 0 where
  pub x-in : x < s.a
  pub y-in : y < s.b
  pub z-in : z < s.c
  pub was : before x y z ≡ true
  pub now : after x y z ≡ false
  pub rest : (x' y' z' : ℕ) → (x' ≢ x) ⊎ ((y' ≢ y) ⊎ (z' ≢ z)) → before x' y' z' ≡ after x' y' z'

module _ (s : Sides) (x y z : ℕ) (before after : Voxels) (gone : Gone s x y z before after) where
  -- cells of other voxels only
  covered-apart : (k l m : Bool) (i j h : ℕ) → (Off (width k) x i) ⊎ ((Off (width l) y j) ⊎ (Off (width m) z h))
      → covered before (piece k i) (piece l j) (piece m h) ≡ covered after (piece k i) (piece l j) (piece m h)
  unfolding covered
  covered-apart k l m i j h o =
      some-ext (piece k i) (λ x'. some (piece l j) (λ y'. some (piece m h) (before x' y')))
      (λ x'. some (piece l j) (λ y'. some (piece m h) (after x' y'))) (λ x' ix.
      some-ext (piece l j) (λ y'. some (piece m h) (before x' y')) (λ y'. some (piece m h) (after x' y')) (λ y' iy.
      some-ext (piece m h) (before x' y') (after x' y') (λ z' iz. gone.rest x' y' z' (other x' y' z' ix iy iz o))))
    where
      other : (x' y' z' : ℕ) → Has x' (piece k i) → Has y' (piece l j) → Has z' (piece m h)
          → (Off (width k) x i) ⊎ ((Off (width l) y j) ⊎ (Off (width m) z h)) → (x' ≢ x) ⊎ ((y' ≢ y) ⊎ (z' ≢ z))
      other x' y' z' ix iy iz (inl o) = inl (off-has k x i x' o ix)
      other x' y' z' ix iy iz (inr (inl o)) = inr (inl (off-has l y j y' o iy))
      other x' y' z' ix iy iz (inr (inr o)) = inr (inr (off-has m z h z' o iz))

  count-apart : (k l m : Bool) → count s k l m before + count_at x y z k l m after ≡ count s k l m after + count_at x y z k l m before
  unfolding count count_at
  count-apart k l m =
      local3 (extent k s.a) (extent l s.b) (extent m s.c) (width k) (width l) (width m) x y z (is_covered before k l m) (is_covered after k l m)
      (extent-fits k x s.a gone.x-in) (extent-fits l y s.b gone.y-in) (extent-fits m z s.c gone.z-in)
      (λ i j h o. ap (λ (t : Bool). bit t) (covered-apart k l m i j h o))

  -- all the voxel's cells were covered
  count-full : (k l m : Bool) → count_at x y z k l m before ≡ width k * (width l * width m)
  unfolding count_at
  count-full k l m =
      win3-all (width k) (width l) (width m) x y z (is_covered before k l m) (λ i j h a b c d e f.
      ap (λ (t : Bool). bit t) (covered_out before (piece k i) (piece l j) (piece m h) (
      record { x = x; y = y; z = z; has-x = width_has k x i a b; has-y = width_has l y j c d; has-z = width_has m z h e f; is-in = gone.was })))

  count-gone : (k l m : Bool) → count s k l m before + count_at x y z k l m after ≡ count s k l m after + width k * (width l * width m)
  count-gone k l m = omega (arith, count-apart k l m, count-full k l m)

  no-cube : count_at x y z false false false after ≡ 0
  unfolding count_at win3 win covered some
  no-cube = omega (arith, ap (λ (t : Bool). bit t) gone.now)

  -- the voxel's cells of three kinds that stay covered
  abbrev left : Bool → Bool → Bool → ℕ
  left k l m = count_at x y z k l m after

  -- k - m is added to the Euler number, if the corners - edges + faces of the voxel that stay covered are 1 + k - m
  pub euler-gone : (k m : ℕ)
      → m + left true true true + (left true false false + left false true false + left false false true)
      ≡ k + 1 + (left false true true + left true false true + left true true false)
      → euler_of s after ≡ euler_of s before +ℤ (pos k -ℤ pos m)
  unfolding euler_of corners edges faces cubes count covered some
  euler-gone k m h =
      add-difference (corners s before) (edges s before) (faces s before) (cubes s before) k m (corners s after) (edges s after) (faces s after) (cubes s after)
      (omega (
        arith,
        count-gone true true true,
        count-gone false true true,
        count-gone true false true,
        count-gone true true false,
        count-gone true false false,
        count-gone false true false,
        count-gone false false true,
        count-gone false false false,
        no-cube,
      ))
