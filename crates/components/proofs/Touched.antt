-- The voxels that touch an inner voxel are those at the 27 offsets.
use mathlib.Core.Path.{◌≡◌, refl, ap, ap₂, ◌∙◌}
use mathlib.Core.Bool.{true}
use mathlib.Core.List.{[], ◌∷◌, map, flat_map}
use Prim.Native.Nat.{ℕ, zero, suc, ◌+◌, ◌*◌, ◌/◌, ◌%◌, ◌<◌}
use native.Mathlib.Omega.{arith}
use Rattle.prelude.proofs.Bools.{both_ways}
use Rattle.prelude.proofs.Lists.{Mem}
use Rattle.prelude.proofs.Ranges.{range-mem, mem-range}
use Rattle.rules.specs.declared.Sides.{Sides}
use Rattle.rules.specs.Grid.{range, voxel, touch}
use Rattle.rules.proofs.Places.{Fit}
use Rattle.rules.proofs.Neighbours.{at-close}
use Rattle.rules.proofs.Topology.Around.{Inner, touch-close, close-touch, close_at}
use Rattle.floods.specs.Flood.{spanned, near_by, offset_of, offsets_of}
use Rattle.floods.proofs.Positions.{near-position, position-near}
use Rattle.components.specs.Search.{touching}

-- three layers of three rows of three
module _ (a ab : ℕ) where
  abbrev row_of : ℕ → ℕ
  row_of row = row % 3 * a + row / 3 * ab

  in_row : (row t x p : ℕ) → t < 3 → x ≡ row_of row + t → p ≡ 3 * row + t → x ≡ offset_of a ab p
  in_row row t x p h e q =
      let i : p % 3 ≡ t = omega arith in
      let j = ap (λ (n : ℕ). n % 3 * a) (let y : p / 3 ≡ row = omega arith in y) in
      let k = ap (λ (n : ℕ). n * ab) (let z : p / 9 ≡ row / 3 = omega arith in z) in
      omega arith

  rows-from : (k n : ℕ) → flat_map (λ o. range o 3) (map row_of (range k n)) ≡ offsets_of a ab (range (3 * k) (3 * n))
  unfolding flat_map range
  rows-from k zero = refl
  rows-from k (suc n) =
      let next : 3 * suc k ≡ suc (suc (suc (3 * k))) = omega arith in
      let more : suc (suc (suc (3 * n))) ≡ 3 * suc n = omega arith in
      ap₂ ◌∷◌ (in_row k 0 _ (3 * k) (omega arith) (omega arith) (omega arith))
      (ap₂ ◌∷◌ (in_row k 1 _ (suc (3 * k)) (omega arith) (omega arith) (omega arith))
      (ap₂ ◌∷◌ (in_row k 2 _ (suc (suc (3 * k))) (omega arith) (omega arith) (omega arith))
      (rows-from (suc k) n ∙ ap (λ (j : ℕ). offsets_of a ab (range j (3 * n))) next)))
      ∙ ap (λ (m : ℕ). offsets_of a ab (range (3 * k) m)) more

  rows-nine : (0 + 0 * a) ∷ (0 + 1 * a) ∷ (0 + 2 * a) ∷ (ab + 0 * a) ∷ (ab + 1 * a) ∷ (ab + 2 * a) ∷ (2 * ab + 0 * a) ∷ (2 * ab + 1 * a)
      ∷ (2 * ab + 2 * a) ∷ [] ≡ map row_of (range 0 9)
  unfolding range
  rows-nine =
      ap₂ ◌∷◌ (row _ _ (omega arith)) (ap₂ ◌∷◌ (row _ _ (omega arith)) (ap₂ ◌∷◌ (row _ _ (omega arith)) (ap₂ ◌∷◌ (row _ _ (omega arith))
      (ap₂ ◌∷◌ (row _ _ (omega arith)) (ap₂ ◌∷◌ (row _ _ (omega arith)) (ap₂ ◌∷◌ (row _ _ (omega arith)) (ap₂ ◌∷◌ (row _ _ (omega arith))
      (ap₂ ◌∷◌ (row _ _ (omega arith)) refl))))))))
    where
      row : (x y : ℕ) → x ≡ y → x ≡ y
      row x y e = e

  pub layers-touching : spanned (record { wide = 3; rows = 3; step = a }) (0 ∷ ab ∷ 2 * ab ∷ []) ≡ touching a ab
  unfolding flat_map range
  layers-touching = ap (flat_map (λ o. range o 3)) rows-nine ∙ rows-from 0 9

pub few : (p : ℕ) → Mem p (range 0 27) → p < 27
few p m = let h = range-mem 0 27 p m in omega arith

module _ (s : Sides) (F : Fit s) (v : ℕ) (I : Inner s (voxel s v)) where
  abbrev near : ℕ → Type 0
  near j = near_by (touching s.a (s.a * s.b)) (1 + s.a + s.a * s.b) v j ≡ true

  touch-near : (j : ℕ) → touch s v j ≡ true → near j
  touch-near j t =
      let q = close_at (voxel s v) (voxel s j) (touch-close s v j t) in
      position-near s F v I (range 0 27) j q.0 (mem-range 0 27 q.0 (omega arith) q.1.low) q.1

  near-touch : (j : ℕ) → near j → touch s v j ≡ true
  near-touch j e =
      let q = near-position s F v I (range 0 27) j few e in
      close-touch s v j (at-close (voxel s v) (voxel s j) q.0 q.2)

  pub near-is : (j : ℕ) → near_by (touching s.a (s.a * s.b)) (1 + s.a + s.a * s.b) v j ≡ touch s v j
  near-is j = both_ways _ (touch s v j) (near-touch j) (touch-near j)
