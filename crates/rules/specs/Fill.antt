-- Document 02, CR 6, "Gaps behind the face": the missing voxels that count as measured, before S is found.
use Rattle.std.specs.Prelude.{Bool, not, cond, ◌&&◌, List, map, ℕ, ℤ, negsuc}
use Rattle.cells.specs.Groups.{any, filter, groups}
use Rattle.rules.specs.declared.Sides.{Sides}
use Rattle.rules.specs.Grid.{voxels, on_border, share_face, measured_negative, value_at, is_in}
use Rattle.rules.specs.Value.{is_missing}

-- the groups of missing voxels joined by faces
unfoldable pub gaps : Sides → List ℤ → List (List ℕ)
gaps s values = groups (share_face s) (filter (λ i. is_missing (value_at values i)) (voxels s))

-- the other face neighbours of a group: voxels that share a face with one of it, and are none of it
unfoldable pub around : Sides → List ℕ → List ℕ
around s gap = filter (λ j. any (share_face s j) gap && not (is_in gap j)) (voxels s)

-- none on the border, and the other face neighbours are all measured negative
unfoldable pub enclosed : Sides → List ℤ → List ℕ → Bool
enclosed s values gap = not (any (on_border s) gap) && not (any (λ j. not (measured_negative (value_at values j))) (around s gap))

unfoldable pub enclosed_gaps : Sides → List ℤ → List (List ℕ)
enclosed_gaps s values = filter (enclosed s values) (gaps s values)

unfoldable pub in_some : List (List ℕ) → ℕ → Bool
in_some gs i = any (λ g. is_in g i) gs

abbrev pub is_filled : Sides → List ℤ → ℕ → Bool
is_filled s values i = in_some (enclosed_gaps s values) i

-- such a voxel counts as measured with value -1
unfoldable pub filled_in : Sides → List ℤ → List (List ℕ) → List ℤ
filled_in s values gs = map (λ i. cond (in_some gs i) (negsuc 0) (value_at values i)) (voxels s)

-- the values that begin works on
unfoldable pub filled : Sides → List ℤ → List ℤ
filled s values = filled_in s values (enclosed_gaps s values)
