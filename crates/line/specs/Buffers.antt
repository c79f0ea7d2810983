-- The buffers that the program lends for a file.
use Rattle.std.specs.Prelude.{◌≡◌, cond, List, ℕ, ltb, length, replicate, ℤ}
use Rattle.rules.specs.Grid.{size}
use Rattle.format.specs.File.{header_length, sides_in, fit_up_to}
use Rattle.program.specs.Program.{zeros, greatest_side}

-- how many voxels they are for: none where the header is refused before it says how many
unfoldable pub lent_for : List ℕ → ℕ
lent_for file = cond (ltb (length file) header_length) 0 (cond (fit_up_to greatest_side (sides_in file)) (size (sides_in file)) 0)

pub record Lent (n : ℕ) (v : List ℤ) (m : List ℕ) (d : List ℤ) (b : List ℕ) : Type 0 where
  pub values : v ≡ zeros n
  pub marks : m ≡ replicate n 0
  pub distances : d ≡ zeros n
  pub statuses : b ≡ replicate n 0
