-- Steps of begin and of the machine by another rule: on some input each does something else. proofs/WrongSteps.antt shows it by computation.
use Rattle.std.specs.Prelude.{◌≡◌, Bool, true, false, not, cond, ◌&&◌, ◌||◌, List, [], ◌∷◌, map, ℕ, zero, suc, ltb, eqb, length, ℤ, Option, None, Some}
use Rattle.cells.specs.Groups.{filter, groups}
use Rattle.cells.specs.Cells.{passes}
use Rattle.rules.specs.declared.Sides.{Sides}
use Rattle.rules.specs.Value.{missing}
use Rattle.rules.specs.Grid.{size, voxels, touch, share_face, measured_non_negative, amount, value_at}
use Rattle.rules.specs.declared.Carving.{Carving}
use Rattle.rules.specs.declared.Opening.{Opening}
use Rattle.rules.specs.Answer.{done}
use Rattle.rules.specs.Fill.{enclosed_gaps, in_some, filled}
use Rattle.rules.specs.Marks.{marked}
use Rattle.rules.specs.Begin.{least, greatest, negatives, inside, facing, greatest_facing, distance, exposed}
use Rattle.rules.specs.Status.{status_of, woken, is_kept, is_pending, test_at, foremost, first_of, removable, without, goes, examine, openable}
use Rattle.rules.specs.Machine.{State, may_go, sooner, carve, to_open, open_next, after}
use Rattle.rules.specs.Wrong.{OtherStart}

-- ---- begin

-- S is another group of the measured negative voxels, by which of two groups goes before the other
unfoldable pub largest_by : (List ℕ → List ℕ → Bool) → List (List ℕ) → List ℕ
largest_by before [] = []
largest_by before (g ∷ gs) = let h = largest_by before gs in cond (before h g) h g

abbrev pub OtherInside : (Sides → List ℕ → List ℕ → Bool) → Type 0
OtherInside before = ((s : Sides) (values : List ℤ) → inside s values ≡ largest_by (before s) (groups (touch s) (negatives s values))) → ⊥

-- of equal groups the one with the greater index; the smaller group
abbrev pub later_of_equals : Sides → List ℕ → List ℕ → Bool
later_of_equals s g h = ltb (length h) (length g) || (eqb (length g) (length h) && ltb (least (size s) h) (least (size s) g))

abbrev pub smaller : Sides → List ℕ → List ℕ → Bool
smaller s g h = ltb (length g) (length h)

-- joined by faces alone
abbrev pub ByFaces : Type 0
ByFaces =
    ((s : Sides) (values : List ℤ)
    → inside s values ≡ largest_by (λ g h. ltb (length h) (length g)) (groups (share_face s) (negatives s values))) → ⊥

-- M
abbrev pub OtherM : (Sides → List ℤ → List ℕ → ℕ) → Type 0
OtherM other = ((s : Sides) (values : List ℤ) (S : List ℕ) → greatest_facing s values S ≡ other s values S) → ⊥

abbrev pub from_zero : Sides → List ℤ → List ℕ → ℕ
from_zero s values S =
    greatest 0 (map (λ i. amount (value_at values i)) (filter (λ i. measured_non_negative (value_at values i) && facing s S i) (voxels s)))

-- of all measured voxels
abbrev pub of_all : Sides → List ℤ → List ℕ → ℕ
of_all s values S = greatest 1 (map (λ i. amount (value_at values i)) (filter (λ i. measured_non_negative (value_at values i)) (voxels s)))

pub record WrongStarts : Type 0 where
  pub later-of-equals : OtherInside later_of_equals
  pub smallest-group : OtherInside smaller
  pub joined-by-faces : ByFaces
  pub m-of-zero : OtherM from_zero
  pub m-of-all : OtherM of_all
  -- d measured to the discarded voxels too
  pub d-from-discarded : ((s : Sides) (values : List ℤ) (i : ℕ) → distance s (inside s values) i ≡ distance s (negatives s values) i) → ⊥
  -- a filled voxel stays missing
  pub fills-with-the-mark :
      ((s : Sides) (values : List ℤ) → filled s values ≡ map (λ i. cond (in_some (enclosed_gaps s values) i) missing (value_at values i)) (voxels s)) → ⊥
  -- nothing is pending; every kept voxel outside S is
  pub nothing-pending : OtherStart (λ s m kept i. false)
  pub all-pending : OtherStart (λ s m kept i. true)

-- ---- the machine

abbrev pub OtherGoes : (Sides → (ℕ → Bool) → List ℕ → ℕ → Bool) → Type 0
OtherGoes other = ((s : Sides) (free : ℕ → Bool) (status : List ℕ) (i : ℕ) → goes s free status i ≡ other s free status i) → ⊥

-- the voxels that a removal wakes
abbrev pub OtherWaking : (Sides → (ℕ → Bool) → List ℕ → ℕ → ℕ → Bool) → Type 0
OtherWaking wakes =
    ((s : Sides) (free : ℕ → Bool) (status : List ℕ) (i : ℕ)
    → without s free status i
    ≡ map (λ j. cond (eqb j i) 0 (cond (wakes s free status i j) (woken (status_of status j)) (status_of status j))) (voxels s)) → ⊥

abbrev pub OtherOpenable : (Sides → (ℕ → Bool) → List ℕ → ℕ → Bool) → Type 0
OtherOpenable other = ((s : Sides) (free : ℕ → Bool) (status : List ℕ) (i : ℕ) → openable s free status i ≡ other s free status i) → ⊥

-- of equals the greater index
unfoldable pub last_foremost : (ℕ → ℕ → Bool) → List ℕ → Option ℕ
last_foremost ahead [] = None
last_foremost ahead (i ∷ is) = elim (last_foremost ahead is) [ None ↦ Some i | Some j ↦ cond (ahead i j) (Some i) (Some j) ]

-- the first voxel that a carve of so many examinations finds failing
unfoldable pub first_failed : Sides → (ℕ → Bool) → (ℕ → ℕ → Bool) → ℕ → List ℕ → Option ℕ
first_failed s free ahead zero status = None
first_failed s free ahead (suc limit) status =
    elim (first_of s ahead (is_pending status)) [
      | None ↦ None
      | Some i ↦ cond (goes s free status i) (first_failed s free ahead limit (examine s free status i)) (Some i)
    ]

-- open takes the voxel that failed first in the carve before it
abbrev pub OpensFirstFailure : Type 0
OpensFirstFailure =
    ((marks : List ℕ) (limit : ℕ) (g : State)
    → let m = marked marks in
    let free = may_go m g.dist in
    to_open free (after (λ r. r.next) g (carve marks limit g)) ≡ first_failed g.rec.sides free (sooner m g.dist) limit g.status) → ⊥

pub record WrongSteps : Type 0 where
  pub k-alone : OtherGoes (λ s free status i. eqb (test_at s status i).k 1 && free i)
  pub m-alone : OtherGoes (λ s free status i. eqb (test_at s status i).m 1 && free i)
  -- a pinned voxel that is examined goes
  pub pinned-goes : OtherGoes (λ s free status i. passes (test_at s status i))
  pub wakes-nobody : OtherWaking (λ s free status i j. false)
  pub wakes-by-faces : OtherWaking (λ s free status i j. removable free status j && share_face s i j)
  pub wakes-all : OtherWaking (λ s free status i j. removable free status j)
  pub wakes-inside : OtherWaking (λ s free status i j. is_kept status j && touch s i j)
  pub opens-behind-the-surface : OtherOpenable (λ s free status i. removable free status i && not (exposed s (is_kept status) i))
  pub opens-anywhere : OtherOpenable (λ s free status i. removable free status i)
  pub later-of-equals : ((ahead : ℕ → ℕ → Bool) (is : List ℕ) → foremost ahead is ≡ last_foremost ahead is) → ⊥
  pub opens-first-failure : OpensFirstFailure

-- ---- answers

pub record WrongAnswers : Type 0 where
  -- carve answers its removals as examinations; open leaves the Euler number as it was
  pub examinations-as-removals :
      ((marks : List ℕ) (limit : ℕ) (g : State) (a : Carving) → (carve marks limit g).answer ≡ done a → a.examined ≡ a.removed) → ⊥
  pub euler-unchanged : ((marks : List ℕ) (g : State) (a : Opening) → (open_next marks g).answer ≡ done a → a.next.euler ≡ g.rec.euler) → ⊥
