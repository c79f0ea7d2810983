-- The neighbourhood of an inner voxel: 27 voxels, by position p = x + 3 y + 9 z, and what is kept and pending there, as a block and as the bits of one
-- number.
use Rattle.std.specs.Prelude.{◌≡◌, Bool, true, false, List, [], ◌∷◌, ℕ, ◌+◌, ◌-◌, ◌*◌, ◌/◌, ◌%◌, ◌≤◌, ◌<◌, length}
use Rattle.rules.specs.declared.Sides.{Sides}
use Rattle.rules.specs.Grid.{fit_sides, size, on_border}
use Rattle.rules.specs.Status.{status_of, is_kept}
use Rattle.bits.specs.Bits.{has, bits}
use Rattle.touched_cells.specs.Block.{Rows, code_in}

-- statuses of two bits each, and those of a grid
abbrev pub Few : List ℕ → Type 0
Few status = (i : ℕ) → status_of status i ≤ 3

pub record Statuses (s : Sides) (status : List ℕ) : Type 0 where
  pub lent : length status ≡ size s
  pub few : Few status

-- the same, and no border voxel is kept
pub record Body (s : Sides) (status : List ℕ) : Type 0 where
  pub sides : fit_sides s ≡ true
  pub statuses : Statuses s status
  pub border : (i : ℕ) → i < size s → on_border s i ≡ true → is_kept status i ≡ false

-- ---- positions

-- how far a position lies from the first one: rows are a long, layers l
abbrev pub offset : ℕ → ℕ → ℕ → ℕ
offset a l p = p % 3 + a * (p / 3 % 3) + l * (p / 9)

-- the voxel at position 0, and at position p
abbrev pub first_around : Sides → ℕ → ℕ
first_around s i = i - (1 + s.a + s.a * s.b)

unfoldable pub around : Sides → ℕ → ℕ → ℕ
around s i p = first_around s i + offset s.a (s.a * s.b) p

-- the neighbourhood from voxel at on lies in a buffer of n
pub record Room (a l at n : ℕ) : Type 0 where
  pub row : a ≤ 64
  pub layer : l ≤ 4096
  pub ends : at + offset a l 26 < n

-- ---- two bits a voxel, bits 0 and 1 of its status: bit c is of position c / 2

unfoldable pub row_bit : List ℕ → ℕ → ℕ → Bool
row_bit status at c = has (status_of status (at + c / 2)) (c % 2)

-- the row, the layer and the whole from voxel at on
abbrev pub row_at : List ℕ → ℕ → ℕ
row_at status at = bits 6 (row_bit status at)

abbrev pub layer_at : List ℕ → ℕ → ℕ → List ℕ
layer_at status a at = row_at status at ∷ row_at status (at + a) ∷ row_at status (at + 2 * a) ∷ []

abbrev pub cube_at : List ℕ → ℕ → ℕ → ℕ → List (List ℕ)
cube_at status a l at = layer_at status a at ∷ layer_at status a (at + l) ∷ layer_at status a (at + 2 * l) ∷ []

unfoldable pub status_bit : Sides → List ℕ → ℕ → ℕ → Bool
status_bit s status i c = has (status_of status (around s i (c / 2))) (c % 2)

-- the neighbourhood of voxel i, as the bits of one number
abbrev pub code_of : Sides → List ℕ → ℕ → ℕ
code_of s status i = bits 54 (status_bit s status i)

-- and as a block
pub record Gathered (s : Sides) (status : List ℕ) (i : ℕ) (block : List (List ℕ)) : Type 0 where
  pub rows : Rows block
  pub code : code_in block ≡ code_of s status i
