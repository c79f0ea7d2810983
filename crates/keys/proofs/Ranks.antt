-- The rank of a distance: what the machine computes, and its order.
use mathlib.Core.Path.{◌≡◌, refl, sym, ap, ◌∙◌, subst}
use mathlib.Core.Bool.{Bool, true, false, not, cond, ◌&&◌, ◌||◌}
use mathlib.Core.List.{List, [], ◌∷◌}
use Prim.Native.Nat.{ℕ, ◌+◌, ◌^◌, ◌≤◌, ◌<◌}
use native.Mathlib.Omega.{arith}
use native.Mathlib.Decide.{dec_lt}
use borrow.Author.Tests.{lt-ltb, le-ltb}
use lib.Dec.{ltb}
use lib.IntN.{ℤ, pos, negsuc, ◌+ℤ◌}
use lib.ListN.{length}
use lib.Signed.{lt_z}
use mir.Syntax.{w32, w64}
use mir.Val.{SFits, to_z, of_z}
use mir.Facts.{to_z-of_z}
use Rattle.std.proofs.lemmas.Int.{ints}
use Rattle.prelude.proofs.Bools.{not-both}
use Rattle.rules.specs.Grid.{distance_at}
use Rattle.rules.specs.Status.{is_pending}
use Rattle.rules.specs.Marks.{Marked, hurried_mark, marked, unmarked}
use Rattle.rules.specs.Machine.{farther, sooner}
use Rattle.rules.proofs.Topology.Steps.{pending-beyond}
use Rattle.keys.specs.Key.{most, Lent, rank_of, hurry_of, rank_by, rank_at, key_of, key_at, voxel_key}

-- ---- a distance raised by 2^31 + 1

pub rank-some : (z : ℤ) → 0 < rank_of z
unfolding rank_of
rank-some (pos n) = omega arith
rank-some (negsuc n) = omega arith

pub rank-small : (z : ℤ) → SFits w32 z → rank_of z ≤ 4294967296
unfolding rank_of
rank-small (pos n) h = let l : n < 2 ^ 31 = h.sfits in omega arith
rank-small (negsuc n) h = omega arith

-- a distance fits as it is read back, too
pub read_fits : {z : ℤ} → SFits w32 z → SFits w32 (to_z w32 (of_z w32 z))
read_fits h = subst (SFits w32) (sym (to_z-of_z h)) h

-- the rank, as it is read back
pub raised-read :
    (z x : ℤ) → SFits w32 z → x ≡ to_z w32 (of_z w32 z)
    → to_z w64 (of_z w64 (to_z w64 (of_z w64 x) +ℤ pos 2147483649)) ≡ pos (rank_of z)
unfolding rank_of
raised-read (pos n) x h e = omega (arith, ints)
raised-read (negsuc n) x h e = omega (arith, ints)

-- ---- the order of ranks is that of distances

pub rank_less : (a b : ℤ) → rank_of a < rank_of b → lt_z a b ≡ true
unfolding rank_of
rank_less (pos a) (pos b) h = lt-ltb a b (omega arith)
rank_less (pos a) (negsuc b) h = let z : ⊥ = omega arith in absurd z
rank_less (negsuc a) (pos b) h = refl
rank_less (negsuc a) (negsuc b) h = lt-ltb b a (omega arith)

pub rank-least : (a b : ℤ) → SFits w32 a → rank_of b ≤ rank_of a → lt_z a b ≡ false
unfolding rank_of
rank-least (pos a) (pos b) f h = le-ltb a b (omega arith)
rank-least (pos a) (negsuc b) f h = refl
rank-least (negsuc a) (pos b) f h = let z : ⊥ = omega arith in absurd z
rank-least (negsuc a) (negsuc b) f h = let l : a < 2 ^ 31 = f.sfits in le-ltb b a (omega arith)

pub compared : (a b : ℤ) → SFits w32 a → lt_z a b ≡ ltb (rank_of a) (rank_of b)
compared a b f =
    elim (dec_lt (rank_of a) (rank_of b)) [
      | yes h ↦ rank_less a b h ∙ sym (lt-ltb (rank_of a) (rank_of b) h)
      | no h ↦ rank-least a b f (omega arith) ∙ sym (le-ltb (rank_of a) (rank_of b) (omega arith))
    ]

-- ---- the order of ranks is that of the choice: a hurried voxel before all others, and then the greater distance

pub by-some : (hurried : ℕ → Bool) (d : ℤ) (j : ℕ) → 0 < rank_by hurried d j
by-some hurried d j = omega (arith, rank-some d)

-- where none is hurried the rank of a voxel is that of its distance, as it is read back
pub plain-rank :
    {z d : ℤ} (j : ℕ) → SFits w32 z → z ≡ d
    → (rank_of (to_z w32 (of_z w32 z)) ≡ rank_by unmarked.hurried d j) × (rank_of (to_z w32 (of_z w32 z)) ≤ 8589934592)
unfolding hurry_of
plain-rank j f e = let r = ap rank_of (to_z-of_z f ∙ e) in (omega arith, omega (arith, rank-small _ (read_fits f)))

-- of no marks none is hurried
pub none-hurried : (marks : List ℕ) → length marks ≡ 0 → unmarked.hurried ≡ (marked marks).hurried
unfolding marked hurried_mark
none-hurried [] e = refl
none-hurried (x ∷ marks) e = let z : ⊥ = omega arith in absurd z

module _ (m : Marked) (dist : List ℤ) (i j : ℕ) where
  abbrev rank : ℕ → ℕ
  rank i = rank_by m.hurried (distance_at dist i) i

  pub by_less : SFits w32 (distance_at dist i) → rank j < rank i → sooner m dist i j ≡ true
  unfolding sooner farther hurry_of
  by_less f = go (m.hurried i) (m.hurried j)
    where
      go : (h k : Bool) → rank_of (distance_at dist j) + cond k 4294967296 0 < rank_of (distance_at dist i) + cond h 4294967296 0
          → cond h (not k || lt_z (distance_at dist j) (distance_at dist i)) (not k && lt_z (distance_at dist j) (distance_at dist i)) ≡ true
      go true true l = rank_less (distance_at dist j) (distance_at dist i) (omega arith)
      go true false l = refl
      go false true l = let z : ⊥ = omega (arith, rank-small (distance_at dist i) f, rank-some (distance_at dist j)) in absurd z
      go false false l = rank_less (distance_at dist j) (distance_at dist i) (omega arith)

  pub by-least : SFits w32 (distance_at dist j) → rank i ≤ rank j → sooner m dist i j ≡ false
  unfolding sooner farther hurry_of
  by-least f = go (m.hurried i) (m.hurried j)
    where
      go : (h k : Bool) → rank_of (distance_at dist i) + cond h 4294967296 0 ≤ rank_of (distance_at dist j) + cond k 4294967296 0
          → cond h (not k || lt_z (distance_at dist j) (distance_at dist i)) (not k && lt_z (distance_at dist j) (distance_at dist i)) ≡ false
      go true true l = rank-least (distance_at dist j) (distance_at dist i) f (omega arith)
      go true false l = let z : ⊥ = omega (arith, rank-small (distance_at dist j) f, rank-some (distance_at dist i)) in absurd z
      go false true l = refl
      go false false l = rank-least (distance_at dist j) (distance_at dist i) f (omega arith)

-- ---- the key of a voxel

-- a pending voxel is one of the voxels
pub pending-inside : (status : List ℕ) (j : ℕ) → is_pending status j ≡ true → j < length status
pending-inside status j e =
    elim (dec_lt j (length status)) [ yes h ↦ h | no h ↦ not-both (is_pending status j) e (pending-beyond status j (omega arith)) ]

module _ (hurried : ℕ → Bool) (dist : List ℤ) (status : List ℕ) (j : ℕ) where
  -- by its pending bit
  pub key-by : (b : Bool) → is_pending status j ≡ b → key_at hurried dist status j ≡ cond b (voxel_key hurried dist j) 0
  unfolding key_at rank_at
  key-by b e = ap (λ (t : Bool). key_of (cond t (rank_by hurried (distance_at dist j) j) 0) j) e ∙ split b
    where
      split : (b : Bool) → key_of (cond b (rank_by hurried (distance_at dist j) j) 0) j ≡ cond b (voxel_key hurried dist j) 0
      split true = refl
      split false = omega arith

  -- a voxel that has a key is pending
  pub key-pending : 0 < key_at hurried dist status j → is_pending status j ≡ true
  key-pending h = go (is_pending status j) refl
    where
      go : (b : Bool) → is_pending status j ≡ b → b ≡ true
      go true e = refl
      go false e = let z = key-by false e in let b : ⊥ = omega arith in absurd b

  -- and a pending one has a key
  pub key-some : j < most → is_pending status j ≡ true → 0 < key_at hurried dist status j
  key-some h e = let z = key-by true e in omega (arith, by-some hurried (distance_at dist j) j)

-- some of the voxels have their key, and the others none
pub record Keyed (hurried : ℕ → Bool) (dist : List ℤ) (key : ℕ → ℕ) : Type 0 where
  pub few : length dist ≤ most
  pub inside : (j : ℕ) → 0 < key j → j < length dist
  pub own : (j : ℕ) → 0 < key j → key j ≡ voxel_key hurried dist j

-- those that are pending
pub keyed : (hurried : ℕ → Bool) (dist : List ℤ) (status : List ℕ) → Lent dist status → Keyed hurried dist (key_at hurried dist status)
keyed hurried dist status lent =
    let same = lent.same in
    let few = lent.few in
    record { few = omega arith; inside = inside; own = λ j h. key-by hurried dist status j true (key-pending hurried dist status j h) }
  where
    inside : (j : ℕ) → 0 < key_at hurried dist status j → j < length dist
    inside j h = omega (arith, lent.same, pending-inside status j (key-pending hurried dist status j h))
