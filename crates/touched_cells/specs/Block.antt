-- A block as the code holds it: three layers of three rows. A row is one byte, the statuses of its three voxels: voxel x has bit 2 x, which says
-- that it is kept, and bit 2 x + 1, which says that it is pending.
use Rattle.std.specs.Prelude.{◌≡◌, Bool, List, [], ◌∷◌, ℕ, ◌*◌, ◌/◌, ◌%◌, ◌^◌, ◌<◌, get_or}
use Rattle.bits.specs.Bits.{has, bits, spaced}

-- row y of layer z
abbrev pub row_in : List (List ℕ) → ℕ → ℕ → ℕ
row_in block z y = get_or (get_or block z []) y 0

-- whether the voxel at place p = x + 3 y + 9 z is kept
abbrev pub kept_in : List (List ℕ) → ℕ → Bool
kept_in block p = has (row_in block (p / 9) (p / 3 % 3)) (2 * (p % 3))

-- three statuses a row, and nothing besides
pub record Rows (block : List (List ℕ)) : Type 0 where
  pub few : (z y : ℕ) → row_in block z y < 64

abbrev pub LayerRows : List ℕ → Type 0
LayerRows layer = (y : ℕ) → get_or layer y 0 < 64

-- ---- the rows side by side

unfoldable pub layer_bit : List ℕ → ℕ → Bool
layer_bit layer c = has (get_or layer (c / 6) 0) (c % 6)

unfoldable pub block_bit : List (List ℕ) → ℕ → Bool
block_bit block c = has (row_in block (c / 18) (c / 6 % 3)) (c % 6)

abbrev pub code_in : List (List ℕ) → ℕ
code_in block = bits 54 (block_bit block)

-- the kept places of a code
abbrev pub kept_of : ℕ → ℕ → Bool
kept_of code p = has code (2 * p)

-- ---- a block from its code, and from kept voxels given as the low 27 bits of one number

abbrev pub row_of : ℕ → ℕ
row_of code = bits 6 (has code)

abbrev pub layer_of : ℕ → List ℕ
layer_of code = row_of code ∷ row_of (code / 2 ^ 6) ∷ row_of (code / 2 ^ 12) ∷ []

-- a block with just these voxels kept, and none pending
pub record Unpacked (kept : ℕ) (block : List (List ℕ)) : Type 0 where
  pub rows : Rows block
  pub code : code_in block ≡ bits 54 (spaced (has kept))
