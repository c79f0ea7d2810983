-- The touched cells of a block as the bits of one number, two apart, and what is read from them at the corners.
use Rattle.std.specs.Prelude.{◌≡◌, Bool, ◌&&◌, ◌||◌, ℕ, ◌*◌}
use Rattle.cells.specs.Cells.{touched, test}
use Rattle.closed_sets.specs.Rank.{rank_of4}
use Rattle.bits.specs.Bits.{has, bits, spaced}

-- t has the cells that these voxels touch
abbrev pub TouchedBy : (ℕ → Bool) → ℕ → Type 0
TouchedBy kept t = t ≡ bits 54 (spaced (touched kept))

-- some voxels touch just the cells of t; k is the number of groups of these cells
abbrev pub Touched : ℕ → Type 0
Touched t = (kept : ℕ → Bool) × TouchedBy kept t

abbrev pub TouchedGroups : ℕ → ℕ → Type 0
TouchedGroups t k = (kept : ℕ → Bool) → TouchedBy kept t → k ≡ (test kept).k

-- the rank of the odd corners, joined through even ones: x, y and z have the corners whose edge along that axis is touched
abbrev pub odd_rank : (x y z : ℕ → Bool) → ℕ
odd_rank x y z =
    rank_of4 ((x 0 && y 0) || (x 8 && y 8)) ((x 0 && z 0) || (x 20 && z 20)) ((y 0 && z 0) || (y 24 && z 24))
    ((y 8 && z 8) || (y 20 && z 20)) ((x 8 && z 8) || (x 24 && z 24)) ((x 20 && y 20) || (x 24 && y 24))

-- the cells of a number whose bits stand two apart
abbrev pub cells_of : ℕ → ℕ → Bool
cells_of t c = has t (2 * c)
