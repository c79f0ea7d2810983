-- Document 01, "Grid and worked distances": sides, voxels, neighbours. What a value means stands in Value.antt.
use Rattle.std.specs.Prelude.{Bool, ◌&&◌, ◌||◌, List, ℕ, suc, ◌+◌, ◌-◌, ◌*◌, ◌/◌, ◌%◌, leb, ltb, eqb, get_or, ℤ, pos}
unfoldable pub use Rattle.prelude.specs.Lists.{range}
use Rattle.prelude.specs.Lists.{any}
pub use Rattle.prelude.specs.Integers.{is_negative}
pub use Rattle.cells.specs.Cells.{face_positions}
pub use Rattle.rules.specs.Value.{missing, amount}
unfoldable pub use Rattle.rules.specs.Value.{measured_negative, measured_non_negative}
use Rattle.rules.specs.declared.Sides.{Sides}

-- ---- sides and voxels

abbrev pub fit_side : ℕ → Bool
fit_side n = leb 3 n && leb n 64

unfoldable pub fit_sides : Sides → Bool
fit_sides s = fit_side s.a && (fit_side s.b && fit_side s.c)

-- n
unfoldable pub size : Sides → ℕ
size s = s.a * s.b * s.c

pub record Voxel : Type 0 where
  pub x : ℕ
  pub y : ℕ
  pub z : ℕ

unfoldable pub index : Sides → Voxel → ℕ
index s v = v.x + s.a * (v.y + s.b * v.z)

unfoldable pub voxel : Sides → ℕ → Voxel
voxel s i = record { x = i % s.a; y = i / s.a % s.b; z = i / (s.a * s.b) }

-- every voxel, by its index
unfoldable pub voxels : Sides → List ℕ
voxels s = range 0 (size s)

unfoldable pub is_in : List ℕ → ℕ → Bool
is_in l i = any (eqb i) l

-- at 0 or at the side less 1
abbrev pub end : ℕ → ℕ → Bool
end side x = eqb x 0 || eqb (suc x) side

unfoldable pub on_border : Sides → ℕ → Bool
on_border s i = end s.a (voxel s i).x || (end s.b (voxel s i).y || end s.c (voxel s i).z)

-- ---- neighbours

unfoldable pub gap : ℕ → ℕ → ℕ
gap p q = (p - q) + (q - p)

-- touch: no coordinate differs by more than 1
unfoldable pub near : Voxel → Voxel → Bool
near u v = leb (gap u.x v.x) 1 && (leb (gap u.y v.y) 1 && leb (gap u.z v.z) 1)

unfoldable pub touch : Sides → ℕ → ℕ → Bool
touch s i j = near (voxel s i) (voxel s j)

-- |dx| + |dy| + |dz|
unfoldable pub apart : Voxel → Voxel → ℕ
apart u v = gap u.x v.x + gap u.y v.y + gap u.z v.z

unfoldable pub taxicab : Sides → ℕ → ℕ → ℕ
taxicab s i j = apart (voxel s i) (voxel s j)

unfoldable pub share_face : Sides → ℕ → ℕ → Bool
share_face s i j = eqb (taxicab s i j) 1

-- A digit 0, 1, 2 of a position is one lower, the same, one higher. So x + digit counts coordinates from 1, and is 0, or more
-- than the side, beyond the grid.
abbrev pub reaches : ℕ → ℕ → ℕ → Bool
reaches side x digit = leb 1 (x + digit) && leb (x + digit) side

abbrev pub neighbour : Voxel → ℕ → Voxel
neighbour v p = record { x = v.x + p % 3 - 1; y = v.y + p / 3 % 3 - 1; z = v.z + p / 9 - 1 }

-- the block around a voxel, of what a test on indices finds: beyond the grid it finds nothing
unfoldable pub neighbourhood_of : Sides → (ℕ → Bool) → Voxel → ℕ → Bool
neighbourhood_of s found v p =
    reaches s.a v.x (p % 3) && (reaches s.b v.y (p / 3 % 3) && (reaches s.c v.z (p / 9) && found (index s (neighbour v p))))

unfoldable pub neighbourhood : Sides → (ℕ → Bool) → ℕ → ℕ → Bool
neighbourhood s found i p = neighbourhood_of s found (voxel s i) p

-- ---- buffers

-- what the value buffer, and the distance buffer, hold at an index
abbrev pub value_at : List ℤ → ℕ → ℤ
value_at values i = get_or values i missing

abbrev pub distance_at : List ℤ → ℕ → ℤ
distance_at dist i = get_or dist i (pos 0)
