-- Document 02's CR 10, "Coarse run first": blocks of two by two by two voxels.
use Rattle.std.specs.Prelude.{Bool, false, cond, List, [], ◌∷◌, map, ℕ, ◌+◌, ◌*◌, ◌/◌, ◌%◌, ℤ, pos}
use Rattle.std.specs.Int.Signed.{lt_z}
use Rattle.cells.specs.Groups.{any}
use Rattle.rules.specs.declared.Sides.{Sides}
use Rattle.rules.specs.Grid.{Voxel, index, voxel, range, voxels, distance_at}
use Rattle.rules.specs.Marks.{Marked}
use Rattle.rules.specs.Status.{is_kept}

-- the grid of blocks
unfoldable pub halved : Sides → Sides
halved s = record { a = s.a / 2; b = s.b / 2; c = s.c / 2 }

-- the block that a voxel is in
abbrev pub half_of : Voxel → Voxel
half_of v = record { x = v.x / 2; y = v.y / 2; z = v.z / 2 }

unfoldable pub block_of : Sides → ℕ → ℕ
block_of s i = index (halved s) (half_of (voxel s i))

-- the eight voxels of a block
abbrev pub part_of : Voxel → ℕ → Voxel
part_of v o = record { x = 2 * v.x + o % 2; y = 2 * v.y + o / 2 % 2; z = 2 * v.z + o / 4 }

unfoldable pub eight : Sides → ℕ → List ℕ
eight s j = map (λ o. index s (part_of (voxel (halved s) j) o)) (range 0 8)

-- "each with the least worked distance of its eight"
abbrev pub lesser : ℤ → ℤ → ℤ
lesser p q = cond (lt_z q p) q p

unfoldable pub least_from : ℤ → List ℤ → ℤ
least_from p [] = p
least_from p (q ∷ qs) = lesser q (least_from p qs)

-- of no numbers it would be 0: there are eight
abbrev pub least_of : List ℤ → ℤ
least_of [] = pos 0
least_of (p ∷ ps) = least_from p ps

unfoldable pub block_distance : Sides → List ℤ → ℕ → ℤ
block_distance s dist j = least_of (map (distance_at dist) (eight s j))

unfoldable pub block_distances : Sides → List ℤ → List ℤ
block_distances s dist = map (block_distance s dist) (voxels (halved s))

-- "A block is pinned if any of its voxels is; hurries wait"
unfoldable pub block_marks : Sides → Marked → Marked
block_marks s m = record { pinned = λ j. any m.pinned (eight s j); hurried = λ j. false }

-- "Its kept blocks, split again": a voxel is in the body if its block is kept
unfoldable pub split_body : Sides → List ℕ → ℕ → Bool
split_body s blocks i = is_kept blocks (block_of s i)
