-- Floods with one work list. A voxel's neighbours are those at some offsets from it: touching is one list of offsets, sharing a face is another.
use Rattle.std.specs.Prelude.{◌≡◌, ◌⊎◌, Bool, true, ℕ, ◌+◌, ◌-◌, ◌*◌, ◌/◌, ◌%◌, ◌≤◌, ◌<◌, eqb, pos, length, get_or}
use mathlib.Core.List.{List, map, flat_map}
use Rattle.cells.specs.Groups.{any}
use Rattle.cells.specs.Linked.{Linked}
use Rattle.pushing.specs.declared.Patch.{Patch}
use Rattle.pushing.specs.Push.{Fill, patch_at, labelled, untaken, Ready}

-- ---- neighbours, by offsets from the voxel less `back`

abbrev pub shifted : ℕ → List ℕ → List ℕ
shifted base offsets = map (λ o. base + o) offsets

-- the offsets of patches, each from an offset on
abbrev pub spanned : Patch → List ℕ → List ℕ
spanned p offsets = flat_map (patch_at p) offsets

unfoldable pub near_by : List ℕ → ℕ → ℕ → ℕ → Bool
near_by offsets back v j = any (eqb j) (shifted (v - back) offsets)

-- the offset of position p of 27: one lower, the same or one higher along each axis
abbrev pub offset_of : ℕ → ℕ → ℕ → ℕ
offset_of a ab p = p % 3 + p / 3 % 3 * a + p / 9 * ab

abbrev pub offsets_of : ℕ → ℕ → List ℕ → List ℕ
offsets_of a ab positions = map (offset_of a ab) positions

-- patches that lie in the grid
pub record Pushable (p : Patch) (offsets : List ℕ) (base : ℕ) (f : Fill) : Type 0 where
  pub ready : Ready f
  pub some : 0 < p.rows
  pub inside : (k r : ℕ) → k < length offsets → r < p.rows → base + get_or offsets k 0 + r * p.step + p.wide ≤ length f.labels

-- ---- a flood

-- where a flood may start
pub record Floodable (offsets : List ℕ) (back : ℕ) (f : Fill) (seed : ℕ) : Type 0 where
  pub ready : Ready f
  pub seeded : get_or f.labels seed 0 ≡ 1
  pub low : (v : ℕ) → get_or f.labels v 0 ≡ 1 → back ≤ v
  pub high : (v j : ℕ) → get_or f.labels v 0 ≡ 1 → near_by offsets back v j ≡ true → j < length f.labels

-- i was untaken, and is taken
pub record Taken (l l' : List ℕ) (i : ℕ) : Type 0 where
  pub was : get_or l i 0 ≡ 1
  pub made : get_or l' i 0 ≡ 2

-- what a flood does: it takes the voxels that are linked to the seed by untaken ones, and lists them behind what the work list had
pub record Flooded (near : ℕ → ℕ → Bool) (f g : Fill) (seed : ℕ) : Type 0 where
  pub len : length g.labels ≡ length f.labels
  pub kept : (i : ℕ) → (get_or g.labels i 0 ≡ get_or f.labels i 0) ⊎ (Taken f.labels g.labels i)
  pub linked : (i : ℕ) → Taken f.labels g.labels i → Linked (labelled 1 f.labels) near seed i
  pub whole : (i : ℕ) → Linked (labelled 1 f.labels) near seed i → Taken f.labels g.labels i
  pub longer : f.end ≤ g.end
  pub earlier : (k : ℕ) → k < f.end → get_or g.work k (pos 0) ≡ get_or f.work k (pos 0)
  pub listed : (k : ℕ) → f.end ≤ k → k < g.end → (i : ℕ) × (get_or g.work k (pos 0) ≡ pos i) × (Taken f.labels g.labels i)
  pub queued : (i : ℕ) → Taken f.labels g.labels i → (k : ℕ) × (f.end ≤ k) × (k < g.end) × (get_or g.work k (pos 0) ≡ pos i)
  pub counted : g.end + untaken g.labels ≡ f.end + untaken f.labels
