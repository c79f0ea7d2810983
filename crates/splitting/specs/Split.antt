-- Kept blocks split again: the bytes of their voxels.
use Rattle.std.specs.Prelude.{◌≡◌, Bool, true, false, not, cond, ◌&&◌, List, ℕ, ◌+◌, ◌-◌, ◌*◌, ◌/◌, ◌%◌, ◌≤◌, ◌<◌, ℤ, length}
use Rattle.rules.specs.declared.Sides.{Sides}
use Rattle.rules.specs.Grid.{fit_sides, size, on_border}
use Rattle.rules.specs.Begin.{exposed}
use Rattle.rules.specs.Status.{is_kept}
use Rattle.rules.specs.Machine.{is_inside}
use Rattle.coarse.specs.Blocks.{halved}
use Rattle.coarse.specs.Eight.{Even}

-- ---- a voxel's byte

-- 0 gone, 1 kept, 3 kept and pending: a voxel of S is not pending
abbrev pub byte_by : Bool → Bool → Bool → ℕ
byte_by kept exposed inner = cond kept (cond (not inner && exposed) 3 1) 0

-- of a body without marks, where S is the voxels of negative distance
unfoldable pub byte_of : Sides → List ℤ → (ℕ → Bool) → ℕ → ℕ
byte_of s dist kept i = byte_by (kept i) (exposed s kept i) (is_inside dist i)

-- sides that blocks fill, a distance and a byte for each voxel, and a byte for each block; blocks on the border are not kept
pub record Splittable (s : Sides) (dist : List ℤ) (blocks : List ℕ) (n : ℕ) : Type 0 where
  pub sides : fit_sides s ≡ true
  pub even : Even s
  pub statuses : n ≡ size s
  pub distances : length dist ≡ size s
  pub blocks-len : length blocks ≡ size (halved s)
  pub border : (j : ℕ) → j < size (halved s) → on_border (halved s) j ≡ true → is_kept blocks j ≡ false

-- ---- the blocks around it

-- along an axis, the block across the outer face of a voxel
abbrev pub across : ℕ → ℕ
across x = x / 2 + x % 2 * 2 - 1

-- where a row of blocks begins
abbrev pub block_row : Sides → ℕ → ℕ → ℕ
block_row s y z = s.a / 2 * (y + s.b / 2 * z)

pub record Small (s : Sides) (y z : ℕ) : Type 0 where
  pub a-few : s.a ≤ 64
  pub b-few : s.b ≤ 64
  pub y-few : y ≤ 64
  pub z-few : z ≤ 64

-- ---- a row of voxels by rows of blocks

-- places of a voxel, of its block, and of the three across its outer faces, among n distances and m blocks
pub record Near (n m i own x y z : ℕ) : Type 0 where
  pub i-in : i < n
  pub own_in : own < m
  pub x-in : x < m
  pub y-in : y < m
  pub z-in : z < m

-- so many blocks of a row, with one before and one after, and the two voxels of each
pub record Paired (n distances m own beside above count : ℕ) : Type 0 where
  pub room : 2 * count ≤ n
  pub measured : distances ≡ n
  pub own-low : 1 ≤ own
  pub own_in : own + count < m
  pub beside-in : beside + count ≤ m
  pub above_in : above + count ≤ m

-- voxel x of a row
unfoldable pub pair_byte : List ℤ → List ℕ → ℕ → ℕ → ℕ → ℕ → ℕ
pair_byte dist blocks own beside above x =
    byte_by (is_kept blocks (own + x / 2))
    (not (is_kept blocks (above + x / 2) && (is_kept blocks (beside + x / 2) && is_kept blocks (own + x / 2 + x % 2 * 2 - 1)))) (is_inside dist x)
