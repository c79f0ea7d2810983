-- What the coarse run asks, and what it leaves.
use Rattle.std.specs.Prelude.{◌≡◌, ◌⊎◌, true, false, List, ℕ, ◌<◌, ℤ}
use Rattle.rules.specs.declared.Sides.{Sides}
use Rattle.rules.specs.Grid.{fit_sides, size, on_border}
use Rattle.rules.specs.Marks.{Marked}
use Rattle.rules.specs.Machine.{is_inside}
use Rattle.coarse.specs.Blocks.{halved}
use Rattle.coarse.specs.Eight.{Even}
use Rattle.coarse.specs.Coarse.{coarse_run}
use Rattle.block_start.specs.Start.{Startable}

-- a grid that has blocks, room for a byte for each voxel, and no mark or one for each voxel
pub record Pinnable (s : Sides) (marks n : ℕ) : Type 0 where
  pub sides : fit_sides s ≡ true
  pub half-sides : fit_sides (halved s) ≡ true
  pub even : Even s
  pub len : n ≡ size s
  pub marks-len : (marks ≡ 0) ⊎ (marks ≡ size s)

-- block distances of which one is negative, and none on the border
pub record Runnable (h : Sides) (blocks : List ℤ) (n : ℕ) : Type 0 where
  pub startable : Startable h blocks n
  pub inner : (j : ℕ) → j < size h → is_inside blocks j ≡ true → on_border h j ≡ false

-- the status bytes after it, and how many examinations it made
pub record Ran (h : Sides) (m : Marked) (blocks : List ℤ) (status : List ℕ) (examined : ℕ) : Type 0 where
  pub bytes : status ≡ (coarse_run h m blocks).status
  pub count : examined ≡ (coarse_run h m blocks).examined
