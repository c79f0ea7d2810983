-- The status of a voxel with marks, by the one without them.
use Rattle.std.specs.Prelude.{Bool, cond, ◌||◌, List, ℕ, eqb, ℤ}
use Rattle.rules.specs.Grid.{is_negative, distance_at}
use Rattle.rules.specs.Marks.{Marked}

-- the status x of a voxel whose worked distance is d, with marks
unfoldable pub marked_status : ℤ → Bool → Bool → ℕ → ℕ
marked_status d hurried pinned x = cond (is_negative d || eqb x 0) x (cond hurried 3 (cond pinned 1 x))

abbrev pub marked_status_at : List ℤ → Marked → ℕ → ℕ → ℕ
marked_status_at dist m k x = marked_status (distance_at dist k) (m.hurried k) (m.pinned k) x
