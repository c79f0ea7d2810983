-- Document 01, "The carving machine": what the status bytes say, which voxel comes first, and what a removal and an examination do to them.
-- Two things are given from outside, since they are for the call to say: which voxels may go (`free`), and which of two goes ahead (`ahead`).
use Rattle.std.specs.Prelude.{Bool, true, false, cond, ◌&&◌, List, [], ◌∷◌, map, ℕ, zero, suc, ◌+◌, ◌-◌, ◌/◌, ◌%◌, eqb, get_or, set, Option, None, Some}
use Rattle.cells.specs.Groups.{any, filter}
use Rattle.cells.specs.Cells.{Test, test, passes}
use Rattle.rules.specs.declared.Sides.{Sides}
use Rattle.rules.specs.Grid.{voxels, touch, neighbourhood}
use Rattle.rules.specs.Begin.{exposed}

-- ---- status is 0 gone, 1 kept, 3 kept and pending: bit 0 says kept, bit 1 pending

abbrev pub status_of : List ℕ → ℕ → ℕ
status_of status i = get_or status i 0

unfoldable pub kept_byte : ℕ → Bool
kept_byte x = eqb (x % 2) 1

unfoldable pub pending_byte : ℕ → Bool
pending_byte x = eqb (x / 2 % 2) 1

-- a byte made pending, and one made not pending
unfoldable pub woken : ℕ → ℕ
woken x = cond (pending_byte x) x (x + 2)

unfoldable pub rested : ℕ → ℕ
rested x = x - 2

unfoldable pub is_kept : List ℕ → ℕ → Bool
is_kept status i = kept_byte (status_of status i)

unfoldable pub is_pending : List ℕ → ℕ → Bool
is_pending status i = pending_byte (status_of status i)

unfoldable pub any_pending : Sides → List ℕ → Bool
any_pending s status = any (is_pending status) (voxels s)

unfoldable pub test_at : Sides → List ℕ → ℕ → Test
test_at s status i = test (neighbourhood s (is_kept status) i)

-- ---- the voxel that comes first: none goes ahead of it, and of equals it has the smallest index

-- i, whose index is smaller, against the choice among the voxels after it
unfoldable pub prefer : (ℕ → ℕ → Bool) → ℕ → Option ℕ → Option ℕ
prefer ahead i None = Some i
prefer ahead i (Some j) = cond (ahead j i) (Some j) (Some i)

unfoldable pub foremost : (ℕ → ℕ → Bool) → List ℕ → Option ℕ
foremost ahead [] = None
foremost ahead (i ∷ is) = prefer ahead i (foremost ahead is)

unfoldable pub first_of : Sides → (ℕ → ℕ → Bool) → (ℕ → Bool) → Option ℕ
first_of s ahead p = foremost ahead (filter p (voxels s))

-- ---- removal: the voxel is gone, and every kept voxel that may go and touches it becomes pending

unfoldable pub removable : (ℕ → Bool) → List ℕ → ℕ → Bool
removable free status i = is_kept status i && free i

unfoldable pub status_without : Sides → (ℕ → Bool) → List ℕ → ℕ → ℕ → ℕ
status_without s free status i j =
    cond (eqb j i) 0 (cond (removable free status j && touch s i j) (woken (status_of status j)) (status_of status j))

unfoldable pub without : Sides → (ℕ → Bool) → List ℕ → ℕ → List ℕ
without s free status i = map (status_without s free status i) (voxels s)

-- ---- an examination: the voxel is not pending any more, and gone where it passes and may go

unfoldable pub goes : Sides → (ℕ → Bool) → List ℕ → ℕ → Bool
goes s free status i = passes (test_at s status i) && free i

abbrev pub examined_as : Bool → Sides → (ℕ → Bool) → List ℕ → ℕ → List ℕ
examined_as true s free status i = without s free status i
examined_as false s free status i = set status i (rested (status_of status i))

unfoldable pub examine : Sides → (ℕ → Bool) → List ℕ → ℕ → List ℕ
examine s free status i = examined_as (goes s free status i) s free status i

-- ---- up to so many examinations, while a voxel is pending: how many were made, how many removed, the face of the last removal, 6 where there
-- was none, and the status bytes after them

pub record Progress : Type 0 where
  pub examined : ℕ
  pub removed : ℕ
  pub face : ℕ
  pub status : List ℕ

abbrev pub progress : ℕ → ℕ → ℕ → List ℕ → Progress
progress examined removed face status = record { examined = examined; removed = removed; face = face; status = status }

-- what is told of the last removal: the later, unless none was removed later
abbrev pub latest : ℕ → ℕ → ℕ → ℕ
latest earlier zero later = earlier
latest earlier (suc removed) later = later

-- one examination, of a voxel with that face, and what follows it
abbrev pub counted : Bool → ℕ → Progress → Progress
counted gone face rest =
    progress (suc rest.examined) (cond gone (suc rest.removed) rest.removed) (latest (cond gone face 6) rest.removed rest.face)
    rest.status

-- the voxel that comes first, if one is pending, is examined, and the rest follows
abbrev pub examining : Sides → (ℕ → Bool) → List ℕ → (ℕ → Progress) → Option ℕ → Progress
examining s free status rest None = progress 0 0 6 status
examining s free status rest (Some i) = counted (goes s free status i) (test_at s status i).face (rest i)

unfoldable pub carving : Sides → (ℕ → Bool) → (ℕ → ℕ → Bool) → ℕ → List ℕ → Progress
carving s free ahead zero status = progress 0 0 6 status
carving s free ahead (suc limit) status =
    examining s free status (λ i. carving s free ahead limit (examine s free status i)) (first_of s ahead (is_pending status))

-- ---- the voxels that may be opened: they have a face neighbour not kept

unfoldable pub openable : Sides → (ℕ → Bool) → List ℕ → ℕ → Bool
openable s free status i = removable free status i && exposed s (is_kept status) i
