-- Which voxels pass while a removal list is judged.
use Rattle.std.specs.Prelude.{◌≡◌, Bool, true, false, not, ◌&&◌, List, ℕ, ◌≤◌, ◌<◌, ℤ, length}
use Rattle.cells.specs.Groups.{any}
use Rattle.rules.specs.declared.Sides.{Sides}
use Rattle.rules.specs.Grid.{size, range, touch}
use Rattle.rules.specs.Neighbours.{Inner}
use Rattle.rules.specs.Status.{is_kept}
use Rattle.rules.specs.Machine.{is_inside}
use Rattle.neighbourhood.specs.Neighbourhood.{Body, around}
use Rattle.judging.specs.Judge.{can_pass}
use Rattle.entries.specs.Entries.{index_of, Listed}

-- a body and its distances
pub record Held (s : Sides) (dist : List ℤ) (status : List ℕ) : Type 0 where
  pub body : Body s status
  pub distances : length dist ≡ size s

-- kept and outside S
unfoldable pub standing : List ℤ → List ℕ → ℕ → Bool
standing dist status j = is_kept status j && not (is_inside dist j)

-- the voxel at a position around voxel i can go, and any of the 27 can
unfoldable pub passes_around : Sides → List ℤ → List ℕ → ℕ → ℕ → Bool
passes_around s dist status i p = can_pass s (is_inside dist) (is_kept status) (around s i p)

unfoldable pub any_around : Sides → List ℤ → List ℕ → ℕ → Bool
any_around s dist status i = any (passes_around s dist status i) (range 0 27)

-- a voxel that can go touches the voxel of an entry from this one up to that one
abbrev pub OnlyNear : Sides → (ℕ → Bool) → List ℕ → ℕ → ℕ → (ℕ → Bool) → Type 0
OnlyNear s S list from to kept =
    (j : ℕ) → j < size s → ((r : ℕ) → from ≤ r → r < to → touch s (index_of list r) j ≡ false) → can_pass s S kept j ≡ false

-- a body that the entries before this one have left; where it was asked, none could go at entry from
pub record Since (s : Sides) (dist : List ℤ) (status list : List ℕ) (asked : Bool) (from to : ℕ) : Type 0 where
  pub held : Held s dist status
  pub order : from ≤ to
  pub listed : Listed list to (length status)
  pub past : (r : ℕ) → r < to → Inner s (index_of list r)
  pub near : asked ≡ true → OnlyNear s (is_inside dist) list from to (is_kept status)
