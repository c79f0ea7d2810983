-- The smallest box that holds S, and the status by it, where d is 0 at the voxels of S.
use Rattle.std.specs.Prelude.{◌≡◌, ◌⊎◌, Bool, true, not, cond, ◌&&◌, ◌||◌, List, map, ℕ, ◌+◌, ◌-◌, ◌*◌, ◌/◌, ◌%◌, ◌≤◌, ◌<◌, min, max, eqb, leb, length, get_or}
use Rattle.rules.specs.declared.Sides.{Sides}
use Rattle.rules.specs.Grid.{Voxel, fit_sides, size, range, voxel}
use Rattle.loops.specs.Searches.{Absent, First, Last}
use Rattle.loops.specs.InPlace.{Each}
use Rattle.bounding_box.specs.declared.Bounds.{Bounds}

-- ---- the voxels of S in a row

-- a box with y, z and the coordinates from p to q taken in
abbrev pub widened_by : Bounds → ℕ → ℕ → ℕ → ℕ → Bounds
widened_by b p q y z =
    record { x0 = min p b.x0; x1 = max q b.x1; y0 = min y b.y0; y1 = max y b.y1; z0 = min z b.z0; z1 = max z b.z1 }

-- what taking row r in makes of a box
pub data Widened (s : Sides) (d : List ℕ) (r : ℕ) (b b' : Bounds) : Type 0 where
  clear : Absent d 0 (s.a * r) (s.a * r + s.a) → b' ≡ b → Widened s d r b b'
  taken : (p q : ℕ) → First d 0 (s.a * r) (s.a * r + s.a) p → Last d 0 (s.a * r) (s.a * r + s.a) q
      → b' ≡ widened_by b (p - s.a * r) (q - s.a * r) (r % s.b) (r / s.b) → Widened s d r b b'

-- ---- the box

-- a voxel of S below n has the coordinate p
pub record Reached (d : List ℕ) (coordinate : ℕ → ℕ) (n p : ℕ) : Type 0 where
  pub reached : ℕ
  pub below : reached < n
  pub listed : get_or d reached 0 ≡ 0
  pub stands : coordinate reached ≡ p

-- along one axis, of the voxels of S below n: none lies below low or above high; at each end lies one, or it is where the search starts
pub record Spanned (d : List ℕ) (coordinate : ℕ → ℕ) (side n low high : ℕ) : Type 0 where
  pub above : (k : ℕ) → k < n → get_or d k 0 ≡ 0 → low ≤ coordinate k
  pub below : (k : ℕ) → k < n → get_or d k 0 ≡ 0 → coordinate k ≤ high
  pub lowest : (low ≡ side) ⊎ (Reached d coordinate n low)
  pub highest : (high ≡ 0) ⊎ (Reached d coordinate n high)

pub record Bounded (s : Sides) (d : List ℕ) (n : ℕ) (b : Bounds) : Type 0 where
  pub x-spanned : Spanned d (λ k. (voxel s k).x) s.a n b.x0 b.x1
  pub y-spanned : Spanned d (λ k. (voxel s k).y) s.b n b.y0 b.y1
  pub z-spanned : Spanned d (λ k. (voxel s k).z) s.c n b.z0 b.z1

-- a box in the grid
pub record Proper (s : Sides) (b : Bounds) : Type 0 where
  pub x-order : b.x0 ≤ b.x1
  pub x-in : b.x1 < s.a
  pub y-in : b.y1 < s.b
  pub z-in : b.z1 < s.c

-- distances in a grid of fit sides, with a voxel of S
pub record Enclosable (s : Sides) (d : List ℕ) : Type 0 where
  pub fit : fit_sides s ≡ true
  pub len : length d ≡ size s
  pub some : ℕ
  pub some_in : some < size s
  pub some-listed : get_or d some 0 ≡ 0

pub record Enclosed (s : Sides) (d : List ℕ) (b : Bounds) : Type 0 where
  pub bounded : Bounded s d (size s) b
  pub proper : Proper s b

-- ---- the status

pub record Settled (s : Sides) (n : ℕ) (b : Bounds) : Type 0 where
  pub fit : fit_sides s ≡ true
  pub len : n ≡ size s
  pub proper : Proper s b

abbrev pub reach : ℕ → ℕ → ℕ → Bool
reach low high p = leb low p && leb p high

-- in the box
unfoldable pub within : Bounds → Voxel → Bool
within b v = reach b.x0 b.x1 v.x && (reach b.y0 b.y1 v.y && reach b.z0 b.z1 v.z)

-- at an end of the box along some axis
unfoldable pub on_side : Bounds → Voxel → Bool
on_side b v =
    eqb v.z b.z0 || (eqb v.y b.y0 || (eqb v.x b.x0 || (eqb v.x b.x1 || (eqb v.y b.y1 || eqb v.z b.z1))))

unfoldable pub status_in : Bounds → Voxel → ℕ → ℕ
status_in b v d = cond (within b v) (cond (not (eqb d 0) && on_side b v) 3 1) 0

unfoldable pub status_by : Sides → Bounds → List ℕ → List ℕ
status_by s b d = map (λ k. status_in b (voxel s k) (get_or d k 0)) (range 0 (length d))

-- ---- the status of a row

-- from low to high: 1 in S, else 3 at both ends and `other` between them; 0 elsewhere
unfoldable pub row_status : ℕ → ℕ → ℕ → ℕ → ℕ → ℕ
row_status low high other k d = cond (reach low high k) (cond (eqb d 0) 1 (cond (eqb k low || eqb k high) 3 other)) 0

abbrev pub SettledRow : Sides → Bounds → ℕ → List ℕ → List ℕ → Type 0
SettledRow s b r = Each 0 (λ k d. status_in b (voxel s k) d) (s.a * r) (s.a * r + s.a)
