-- How gaps are found, by labels: from a missing voxel beside which a gap is open, a flood takes all that is linked to it by faces. What is then
-- left of the missing voxels is enclosed.
use Rattle.std.specs.Prelude.{◌≡◌, ◌⊎◌, Bool, true, false, List, ℕ, ◌+◌, ◌-◌, ◌≤◌, ◌<◌, eqb, ℤ, length, get_or}
use Rattle.cells.specs.Linked.{Linked}
use Rattle.rules.specs.Grid.{face_positions}
use Rattle.prelude.specs.Lists.{any}
use Rattle.pushing.specs.Push.{labelled, fill_of}
use Rattle.floods.specs.Flood.{offsets_of, near_by, Taken, Flooded}

-- the offsets of the six face neighbours
abbrev pub faces : ℕ → ℕ → List ℕ
faces a ab = offsets_of a ab face_positions

-- a neighbour of the voxel at base has the label 3
unfoldable pub opens : List ℕ → ℕ → List ℕ → Bool
opens offsets base l = any (λ o. eqb (get_or l (base + o) 0) 3) offsets

-- v is linked by untaken voxels to one beside which the gap is open
pub record Reached (offsets : List ℕ) (back : ℕ) (l : List ℕ) (v : ℕ) : Type 0 where
  pub from : ℕ
  pub open_at : opens offsets (from - back) l ≡ true
  pub linked : Linked (labelled 1 l) (near_by offsets back) from v

-- labels on which floods may start, with a work list as long
pub record GapsToFlood (offsets : List ℕ) (back : ℕ) (l : List ℕ) (room : ℕ) : Type 0 where
  pub same : room ≡ length l
  pub small : length l ≤ 262144
  pub low : (v : ℕ) → get_or l v 0 ≡ 1 → back ≤ v
  pub high : (v j : ℕ) → get_or l v 0 ≡ 1 → near_by offsets back v j ≡ true → j < length l

-- a visit to an untaken voxel: a flood from it where the gap is open beside it
pub data Visited (offsets : List ℕ) (back i : ℕ) (l l' : List ℕ) (work work' : List ℤ) : Type 0 where
  flooded : opens offsets (i - back) l ≡ true → (end : ℕ) → Flooded (near_by offsets back) (fill_of l work 0) (fill_of l' work' end) i
      → Visited offsets back i l l' work work'
  passed : opens offsets (i - back) l ≡ false → l' ≡ l → Visited offsets back i l l' work work'

-- all that was reached is taken, and nothing else changed
pub record OpenGapsFlooded (offsets : List ℕ) (back : ℕ) (l l' : List ℕ) : Type 0 where
  pub len : length l' ≡ length l
  pub kept : (v : ℕ) → (get_or l' v 0 ≡ get_or l v 0) ⊎ ((Taken l l' v) × (Reached offsets back l v))
  pub whole : (v : ℕ) → Reached offsets back l v → get_or l' v 0 ≡ 2
