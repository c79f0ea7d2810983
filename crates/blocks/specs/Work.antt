-- The eight voxels of a block from its first one on, and rows of blocks.
use Rattle.std.specs.Prelude.{◌≡◌, true, List, [], ◌∷◌, ℕ, ◌+◌, ◌*◌}
use Rattle.rules.specs.declared.Sides.{Sides}
use Rattle.rules.specs.Grid.{fit_sides, size, voxel}
use Rattle.coarse.specs.Blocks.{halved}
use Rattle.coarse.specs.Eight.{Even}

-- four of a layer
abbrev pub square : ℕ → ℕ → List ℕ
square a at = at ∷ (at + 1) ∷ (at + a) ∷ (at + a + 1) ∷ []

-- in the order of the rule: rows are a long, layers l
abbrev pub corners : ℕ → ℕ → ℕ → List ℕ
corners a l at = at ∷ (at + 1) ∷ (at + a) ∷ (at + a + 1) ∷ (at + l) ∷ (at + l + 1) ∷ (at + a + l) ∷ (at + a + l + 1) ∷ []

-- the first of a block's eight voxels
abbrev pub corner : Sides → ℕ → ℕ
corner s j = let v = voxel (halved s) j in s.a * (2 * v.y + s.b * (2 * v.z)) + 2 * v.x

-- one number for each voxel of a grid that has blocks, and room for one for each block
pub record Blocked (s : Sides) (n blocks : ℕ) : Type 0 where
  pub sides : fit_sides s ≡ true
  pub half-sides : fit_sides (halved s) ≡ true
  pub even : Even s
  pub len : n ≡ size s
  pub blocks-len : blocks ≡ size (halved s)
