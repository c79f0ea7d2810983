-- What the sweeps start from, and what they leave.
use Rattle.std.specs.Prelude.{◌≡◌, true, List, ℕ, ◌+◌, ◌<◌, length, get_or}
use Rattle.rules.specs.declared.Sides.{Sides}
use Rattle.rules.specs.Grid.{fit_sides, size}
use Rattle.rules.specs.Begin.{distance}
use Rattle.rules.specs.Meaning.{SomeVoxels}
use Rattle.components.specs.Work.{Found}

-- 0 at some voxels S, and elsewhere more than any two voxels of the grid are apart
pub record Seeded (s : Sides) (S : List ℕ) (d : List ℕ) : Type 0 where
  pub fit : fit_sides s ≡ true
  pub filled : SomeVoxels s S
  pub seeds : Found s S (s.a + s.b + s.c) d

-- the taxicab distance to S
pub record Measured (s : Sides) (S : List ℕ) (d : List ℕ) : Type 0 where
  pub len : length d ≡ size s
  pub is : (k : ℕ) → k < size s → get_or d k 0 ≡ distance s S k
