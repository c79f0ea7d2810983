-- Two ways to say neighbour are one: by the coordinates of two voxels, and by a position of the three by three by three block around one.
-- Kept voxels are off the border, and so are the voxels that these statements speak of. proofs/Neighbours.antt proves them.
use Rattle.std.specs.Prelude.{◌≡◌, ◌↔◌, Bool, true, false, ℕ, ◌<◌}
use Rattle.rules.specs.declared.Sides.{Sides}
use Rattle.rules.specs.Grid.{fit_sides, size, index, voxel, on_border, touch, share_face, neighbour}
use Rattle.rules.specs.Begin.{exposed}

-- a voxel of the grid off its border
pub record Inner (s : Sides) (i : ℕ) : Type 0 where
  pub sides : fit_sides s ≡ true
  pub below : i < size s
  pub off-border : on_border s i ≡ false

-- two voxels touch exactly if one stands at a position of the other's block
abbrev pub TouchIsBlock : Type 0
TouchIsBlock =
    (s : Sides) (i j : ℕ) → Inner s i → j < size s
    → (touch s i j ≡ true) ↔ ((p : ℕ) × (p < 27) × (index s (neighbour (voxel s i) p) ≡ j))

-- a face neighbour is not kept exactly if a voxel that shares a face is not kept
abbrev pub ExposedIsFace : Type 0
ExposedIsFace =
    (s : Sides) (kept : ℕ → Bool) (i : ℕ) → Inner s i
    → (exposed s kept i ≡ true) ↔ ((j : ℕ) × (j < size s) × (share_face s i j ≡ true) × (kept j ≡ false))
