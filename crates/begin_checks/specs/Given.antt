-- What begin checks of the values and the marks as they are given, and which voxels lie near an end of the grid.
use Rattle.std.specs.Prelude.{Bool, not, ◌&&◌, ◌||◌, List, [], ◌∷◌, ℕ, ◌+◌, eqb, ltb, ℤ, length}
use Rattle.cells.specs.Groups.{any}
use Rattle.rules.specs.declared.Sides.{Sides}
use Rattle.rules.specs.Value.{stray}
use Rattle.rules.specs.Grid.{size, voxel, voxels, on_border, measured_negative, value_at}
use Rattle.rules.specs.Marks.{stray_mark, wrong_marks}
use Rattle.rules.specs.Checks.{Check, ◌when◌}

-- ---- the scans

abbrev pub negative_at : List ℤ → ℕ → Bool
negative_at values i = measured_negative (value_at values i)

-- along an axis, closer than w to an end: x is above the side less w + 1 where x + (w + 1) is above the side
abbrev pub near_end : ℕ → ℕ → ℕ → Bool
near_end w side x = ltb x w || ltb side (x + (w + 1))

-- along some axis
unfoldable pub near_edge : Sides → ℕ → ℕ → Bool
near_edge s w i = near_end w s.a (voxel s i).x || (near_end w s.b (voxel s i).y || near_end w s.c (voxel s i).z)

abbrev pub edge_negative : Sides → ℕ → List ℤ → ℕ → Bool
edge_negative s w values i = near_edge s w i && measured_negative (value_at values i)

-- ---- the checks

-- numbers 28, 29, 3 and 4, as begin_checks has them
abbrev pub value_checks : Sides → List ℤ → List ℕ → List Check
value_checks s values marks =
    28 when any stray values
    ∷ 29 when stray_mark marks
    ∷ 3 when any (λ i. on_border s i && measured_negative (value_at values i)) (voxels s)
    ∷ 4 when not (any (λ i. measured_negative (value_at values i)) (voxels s))
    ∷ []

-- and before them number 2, of these two buffers alone
abbrev pub given_checks : Sides → List ℤ → List ℕ → List Check
given_checks s values marks = 2 when (not (eqb (length values) (size s)) || wrong_marks s marks) ∷ value_checks s values marks
