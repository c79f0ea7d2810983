-- The label of each voxel, by which gaps are found: before the floods, and what is made of it after them.
use Rattle.std.specs.Prelude.{◌≡◌, true, cond, List, ℕ, ◌<◌, ltb, ℤ, length, get_or}
use Rattle.rules.specs.declared.Sides.{Sides}
use Rattle.rules.specs.Value.{is_missing}
use Rattle.rules.specs.Grid.{fit_sides, size, on_border, measured_non_negative, value_at}

-- ---- before the floods

-- 0 a measured negative value, 1 a missing one, 3 any other
unfoldable pub kind_of : ℤ → ℕ
kind_of v = cond (measured_non_negative v) 3 (cond (is_missing v) 1 0)

-- a border voxel is no part of an enclosed gap: to a gap beside it, it is as any voxel that is not measured negative
abbrev pub mark_of : Sides → List ℤ → ℕ → ℕ
mark_of s values i = cond (on_border s i) 3 (kind_of (value_at values i))

pub record Markable (s : Sides) (values : List ℤ) (n : ℕ) : Type 0 where
  pub fit : fit_sides s ≡ true
  pub len : length values ≡ size s
  pub same : n ≡ size s

pub record Marked (s : Sides) (values : List ℤ) (l : List ℕ) : Type 0 where
  pub len : length l ≡ size s
  pub is : (k : ℕ) → k < size s → get_or l k 0 ≡ mark_of s values k

-- ---- after them

-- 1 for a voxel that is measured negative or filled
abbrev pub settled_of : ℕ → ℕ
settled_of d = cond (ltb d 2) 1 0
