-- A row of a grid: row r is y = r % b of layer z = r / b, and its voxels are a r, a r + 1, .., a of them.
use Rattle.std.specs.Prelude.{◌≡◌, true, ℕ, ◌+◌, ◌*◌, ◌/◌, ◌%◌, ◌≤◌, ◌<◌}
use Rattle.rules.specs.declared.Sides.{Sides}
use Rattle.rules.specs.Grid.{fit_sides, size}

-- row r of a grid of fit sides, of which a list of n elements has one for each voxel
pub record Row (s : Sides) (n r : ℕ) : Type 0 where
  pub fit : fit_sides s ≡ true
  pub len : n ≡ size s
  pub few : n ≤ 262144
  pub a-low : 3 ≤ s.a
  pub a-high : s.a ≤ 64
  pub b-low : 3 ≤ s.b
  pub b-high : s.b ≤ 64
  pub c-high : s.c ≤ 64
  pub y-in : r % s.b < s.b
  pub z-in : r / s.b < s.c
  pub last : s.a * r + s.a ≤ n
