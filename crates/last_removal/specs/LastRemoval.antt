-- The last removal of a call.
use Rattle.std.specs.Prelude.{◌≡◌, List, ℕ, Option, None, Some}
use Rattle.rules.specs.declared.Sides.{Sides}
use Rattle.rules.specs.Status.{test_at}
use Rattle.rules.specs.Neighbours.{Inner}
use Rattle.neighbourhood.specs.Neighbourhood.{Statuses}

-- the face of the last removal, from the status bytes after it; 6 where none was made
abbrev pub face_after : Sides → List ℕ → Option ℕ → ℕ
face_after s status None = 6
face_after s status (Some i) = (test_at s status i).face

-- the last voxel removed, if any was, is off the border
pub record LastAt (s : Sides) (status : List ℕ) (last : Option ℕ) : Type 0 where
  pub statuses : Statuses s status
  pub voxel : (i : ℕ) → last ≡ Some i → Inner s i
