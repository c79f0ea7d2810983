-- A position's point from sides and distances alone, as the code finds it, and what it is given.
use Rattle.std.specs.Prelude.{◌≡◌, true, cond, List, [], ◌∷◌, ℕ, suc, ◌*◌, ◌/◌, ◌%◌, ◌≤◌, Float, ℤ, length, Option, None, Some}
use Rattle.std.proofs.lemmas.List.Edits.{sets}
use Rattle.rules.specs.declared.Sides.{Sides}
use Rattle.rules.specs.Grid.{size, fit_sides}
use Rattle.surface.specs.declared.Point.{Point}
use Rattle.surface.specs.Surface.{no_next, crossing_at}

unfoldable pub point_on : Sides → List ℤ → ℕ → Option Point
point_on s dist p = cond (no_next s (p / 3) (p % 3)) None (crossing_at s dist (p / 3) (p % 3))

-- a grid with its distances, and a number of positions that it has
pub record Walkable (s : Sides) (dist : List ℤ) (p : ℕ) : Type 0 where
  pub fit : fit_sides s ≡ true
  pub lent : length dist ≡ size s
  pub within : p ≤ 3 * size s

-- ---- what is found, written after `count` points

abbrev pub counted : Option Point → ℕ → ℕ
counted None count = count
counted (Some q) count = suc count

unfoldable pub stored : Option Point → ℕ → List Float → List Float
stored None count out = out
stored (Some q) count out = sets out (3 * count) (q.x ∷ q.y ∷ q.z ∷ [])
