-- A layer transposed.
use Rattle.std.specs.Prelude.{◌≡◌, List, ℕ, ◌+◌, ◌*◌, ◌≤◌, ◌<◌, length, get_or}

-- a layer among `all` bytes, and a place for it among `room`
pub record Transposable (all at rows m room first : ℕ) : Type 0 where
  pub some : 1 ≤ rows
  pub within : at + rows * m ≤ all
  pub fits : first + m * rows ≤ room
  pub few : all ≤ 262144

-- the first n columns stand one after the other, from first on
pub record Transposed (from : List ℕ) (at rows m n first : ℕ) (to to' : List ℕ) : Type 0 where
  pub len : length to' ≡ length to
  pub inside : (j r : ℕ) → j < n → r < rows → get_or to' (first + j * rows + r) 0 ≡ get_or from (at + r * m + j) 0
  pub outside : (k : ℕ) → (first ≤ k → first + n * rows ≤ k) → get_or to' k 0 ≡ get_or to k 0
