-- Document 01, "The carving machine": corners, edges, faces and cubes of the kept voxels, a shared one counted a single time.
use Rattle.std.specs.Prelude.{◌≡◌, ◌⊎◌, ◌↔◌, Bool, true, ◌&&◌, ◌||◌, ℕ, zero, suc, ◌+◌, ltb, ℤ, pos, ◌+ℤ◌, ◌-ℤ◌}
use Rattle.cells.specs.Cells.{bit}
use Rattle.rules.specs.declared.Sides.{Sides}
use Rattle.rules.specs.Grid.{index}

-- a set of voxels, by three coordinates
abbrev pub Voxels : Type 0
Voxels = ℕ → ℕ → ℕ → Bool

-- the voxels of the grid whose index passes a test; none lies beyond the grid
unfoldable pub body_of : Sides → (ℕ → Bool) → Voxels
body_of s kept x y z = ltb x s.a && (ltb y s.b && (ltb z s.c && kept (index s (record { x = x; y = y; z = z }))))

-- A piece of an axis: the plane i, or the stretch from the plane i to the plane i + 1. A voxel at i fills the stretch i and has both its planes.
pub data Piece : Type 0 where
  plane : ℕ → Piece
  stretch : ℕ → Piece

-- the test passes for a voxel, along an axis, that has the piece
unfoldable pub some : Piece → (ℕ → Bool) → Bool
some (plane zero) p = p zero
some (plane (suc i)) p = p i || p (suc i)
some (stretch i) p = p i

-- A cell is a piece of each axis: a corner has three planes, an edge two, a face one, a cube none. The cell is one of the body's if a voxel
-- of the body contains it.
unfoldable pub covered : Voxels → Piece → Piece → Piece → Bool
covered body p q r = some p (λ x. some q (λ y. some r (λ z. body x y z)))

-- what that means: a voxel at j has the piece of its axis, along each axis
abbrev pub Has : ℕ → Piece → Type 0
Has j (plane i) = (j ≡ i) ⊎ (suc j ≡ i)
Has j (stretch i) = j ≡ i

pub record Holder (body : Voxels) (p q r : Piece) : Type 0 where
  pub x : ℕ
  pub y : ℕ
  pub z : ℕ
  pub has-x : Has x p
  pub has-y : Has y q
  pub has-z : Has z r
  pub is-in : body x y z ≡ true

abbrev pub CoveredIsHeld : Type 0
CoveredIsHeld = (body : Voxels) (p q r : Piece) → (covered body p q r ≡ true) ↔ (Holder body p q r)

-- ---- counting the cells of a grid that are the body's

-- f 0 + f 1 + .. + f (n - 1)
unfoldable pub sum : ℕ → (ℕ → ℕ) → ℕ
sum zero f = zero
sum (suc n) f = sum n f + f n

unfoldable pub sum3 : ℕ → ℕ → ℕ → (ℕ → ℕ → ℕ → ℕ) → ℕ
sum3 a b c f = sum a (λ x. sum b (λ y. sum c (λ z. f x y z)))

unfoldable pub corners : Sides → Voxels → ℕ
corners s body = sum3 (suc s.a) (suc s.b) (suc s.c) (λ i j h. bit (covered body (plane i) (plane j) (plane h)))

unfoldable pub edges : Sides → Voxels → ℕ
edges s body =
    sum3 s.a (suc s.b) (suc s.c) (λ i j h. bit (covered body (stretch i) (plane j) (plane h)))
    + sum3 (suc s.a) s.b (suc s.c) (λ i j h. bit (covered body (plane i) (stretch j) (plane h)))
    + sum3 (suc s.a) (suc s.b) s.c (λ i j h. bit (covered body (plane i) (plane j) (stretch h)))

unfoldable pub faces : Sides → Voxels → ℕ
faces s body =
    sum3 (suc s.a) s.b s.c (λ i j h. bit (covered body (plane i) (stretch j) (stretch h)))
    + sum3 s.a (suc s.b) s.c (λ i j h. bit (covered body (stretch i) (plane j) (stretch h)))
    + sum3 s.a s.b (suc s.c) (λ i j h. bit (covered body (stretch i) (stretch j) (plane h)))

unfoldable pub cubes : Sides → Voxels → ℕ
cubes s body = sum3 s.a s.b s.c (λ x y z. bit (body x y z))

unfoldable pub euler_of : Sides → Voxels → ℤ
euler_of s body = pos (corners s body) -ℤ pos (edges s body) +ℤ pos (faces s body) -ℤ pos (cubes s body)
