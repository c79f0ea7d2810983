-- What the code's coordinates mean and how large they are, and how far apart in index a voxel and the next along an axis lie.
use Rattle.std.specs.Prelude.{ℕ, ◌*◌, ◌≤◌}
use Rattle.rules.specs.declared.Sides.{Sides}
use Rattle.rules.specs.Grid.{Voxel}
use Rattle.surface.specs.declared.Coordinates.{Coordinates}
use Rattle.surface.specs.Surface.{along}

abbrev pub voxel_of : Coordinates → Voxel
voxel_of v = record { x = v.x; y = v.y; z = v.z }

pub record UpTo (n : ℕ) (v : Coordinates) : Type 0 where
  pub x-le : v.x ≤ n
  pub y-le : v.y ≤ n
  pub z-le : v.z ≤ n

abbrev pub stride : ℕ → Sides → ℕ
stride axis s = along axis 1 s.a (s.a * s.b)
