-- Document 01, "The carving machine" and "Numbers that come from the state": carve, take, open and finish, each as a function of the record,
-- both buffers and the arguments to the answer and both buffers after.
use Rattle.std.specs.Prelude.{Bool, true, false, not, cond, ◌&&◌, ◌||◌, List, [], ◌∷◌, ◌++◌, map, ℕ, ◌+◌, ◌-◌, ◌*◌, leb, ltb, eqb, length, ℤ, pos, negsuc, nat_abs, ◌+ℤ◌, ◌-ℤ◌, Option, None, Some}
use Rattle.std.specs.Int.Signed.{lt_z}
use Rattle.cells.specs.Groups.{any}
use Rattle.cells.specs.Cells.{passes}
use Rattle.rules.specs.declared.Sides.{Sides}
use Rattle.rules.specs.declared.Record.{Record}
use Rattle.rules.specs.Grid.{fit_sides, size, voxels, on_border, is_negative, distance_at}
use Rattle.rules.specs.Checks.{Check, ◌when◌, unless}
use Rattle.rules.specs.declared.Carving.{Carving}
use Rattle.rules.specs.declared.Opening.{Opening}
use Rattle.rules.specs.Answer.{Reply, refused, done, Outcome, outcome, untouched, Buffers, buffers, Removal}
use Rattle.rules.specs.Status.{status_of, is_kept, any_pending, test_at, first_of, without, carving, openable}
use Rattle.rules.specs.Marks.{Marked, marked, stray_mark, wrong_marks}

-- what a call is given and lent
pub record State : Type 0 where
  pub rec : Record
  pub dist : List ℤ
  pub status : List ℕ

abbrev pub state : Record → List ℤ → List ℕ → State
state r d s = record { rec = r; dist = d; status = s }

abbrev pub lent_to : State → Buffers
lent_to g = buffers g.dist g.status

-- ---- S, to a call on an unfinished grid, is the voxels of negative worked distance

unfoldable pub is_inside : List ℤ → ℕ → Bool
is_inside dist i = is_negative (distance_at dist i)

unfoldable pub outside : List ℤ → ℕ → Bool
outside dist i = not (is_inside dist i)

-- ---- who may go: a voxel outside S that is not pinned

unfoldable pub may_go : Marked → List ℤ → ℕ → Bool
may_go m dist i = outside dist i && not (m.pinned i)

-- ---- who goes ahead: open takes the greatest worked distance, carve a hurried voxel before all others and then the greatest worked distance

unfoldable pub farther : List ℤ → ℕ → ℕ → Bool
farther dist i j = lt_z (distance_at dist j) (distance_at dist i)

unfoldable pub sooner : Marked → List ℤ → ℕ → ℕ → Bool
sooner m dist i j = cond (m.hurried i) (not (m.hurried j) || farther dist i j) (not (m.hurried j) && farther dist i j)

-- ---- the record after a call: how much each count grows

abbrev pub count : Record → ℕ → ℕ → ℕ → ℤ → Record
count r examined removed opened change =
    record {
      sides = r.sides;
      allowed = r.allowed;
      openings = r.openings + opened;
      removals = r.removals + removed;
      examinations = r.examinations + examined;
      euler = r.euler +ℤ change;
      finished = r.finished;
    }

-- ---- number 7, the unfit record, clause by clause

unfoldable pub unfit_counts : Record → Bool
unfit_counts r =
    ltb r.allowed r.openings
    || (ltb (size r.sides) r.removals || (ltb (27 * size r.sides) r.examinations || ltb (8 * size r.sides) (nat_abs r.euler)))

-- a status not 0, 1 or 3, a border status not 0, or a negative worked distance with status not 1
unfoldable pub unfit_voxel : Sides → List ℤ → List ℕ → ℕ → Bool
unfit_voxel s dist status i =
    not (eqb (status_of status i) 0 || (eqb (status_of status i) 1 || eqb (status_of status i) 3))
    || ((on_border s i && not (eqb (status_of status i) 0)) || (is_inside dist i && not (eqb (status_of status i) 1)))

unfoldable pub unfit : State → Bool
unfit g = unfit_counts g.rec || any (unfit_voxel g.rec.sides g.dist g.status) (voxels g.rec.sides)

unfoldable pub wrong_length : State → Bool
wrong_length g = not (eqb (length g.dist) (size g.rec.sides) && eqb (length g.status) (size g.rec.sides))

-- ---- the checks that calls share: 1, 2, 7 on any state, then 8 on one that is to be unfinished, or 9 on one that is to be finished; with marks
-- their length is n, else 2, and 29 comes after 7

abbrev pub state_checks : State → List Check
state_checks g =
    1 when not (fit_sides g.rec.sides)
    ∷ 2 when wrong_length g
    ∷ 7 when unfit g
    ∷ []

abbrev pub working_checks : State → List Check
working_checks g = state_checks g ++ (8 when g.rec.finished ∷ [])

abbrev pub finished_checks : State → List Check
finished_checks g = state_checks g ++ (9 when not g.rec.finished ∷ [])

abbrev pub marked_checks : List ℕ → State → List Check
marked_checks marks g =
    1 when not (fit_sides g.rec.sides)
    ∷ 2 when (wrong_length g || wrong_marks g.rec.sides marks)
    ∷ 7 when unfit g
    ∷ 29 when stray_mark marks
    ∷ 8 when g.rec.finished
    ∷ []

-- ---- carve

unfoldable pub carved : (ℕ → Bool) → (ℕ → ℕ → Bool) → ℕ → State → Outcome Buffers Carving
carved free ahead limit g =
    let s = g.rec.sides in
    let r = carving s free ahead limit g.status in
    outcome
    (done (
    record {
      examined = r.examined;
      removed = r.removed;
      pending = any_pending s r.status;
      face = r.face;
      next = count g.rec r.examined r.removed 0 (pos 0);
    }
    ))
    (buffers g.dist r.status)

unfoldable pub carve : List ℕ → ℕ → State → Outcome Buffers Carving
carve marks limit g =
    let m = marked marks in
    unless (marked_checks marks g) (untouched (lent_to g)) (carved (may_go m g.dist) (sooner m g.dist) limit g)

-- ---- take

-- a voxel, to be taken
abbrev pub voxel_checks : Marked → ℕ → State → List Check
voxel_checks m i g =
    5 when leb (size g.rec.sides) i
    ∷ 10 when not (is_kept g.status i)
    ∷ 11 when is_inside g.dist i
    ∷ 30 when m.pinned i
    ∷ 12 when not (passes (test_at g.rec.sides g.status i))
    ∷ []

abbrev pub take_checks : List ℕ → ℕ → State → List Check
take_checks marks i g = marked_checks marks g ++ voxel_checks (marked marks) i g

unfoldable pub taken : (ℕ → Bool) → ℕ → State → Outcome Buffers Removal
taken free i g =
    let s = g.rec.sides in
    let t = test_at s g.status i in
    outcome (done (record { k = t.k; m = t.m; face = t.face; next = count g.rec 0 1 0 (pos 0) })) (buffers g.dist (without s free g.status i))

unfoldable pub take : List ℕ → ℕ → State → Outcome Buffers Removal
take marks i g = unless (take_checks marks i g) (untouched (lent_to g)) (taken (may_go (marked marks) g.dist) i g)

-- ---- open

-- the voxel to open: the first that may be
unfoldable pub to_open : (ℕ → Bool) → State → Option ℕ
to_open free g = first_of g.rec.sides (farther g.dist) (openable g.rec.sides free g.status)

abbrev pub is_none : Option ℕ → Bool
is_none None = true
is_none (Some i) = false

abbrev pub quiet_checks : State → List Check
quiet_checks g = 13 when any_pending g.rec.sides g.status ∷ []

abbrev pub opening_checks : (ℕ → Bool) → State → List Check
opening_checks free g =
    14 when eqb g.rec.openings g.rec.allowed
    ∷ 15 when is_none (to_open free g)
    ∷ []

abbrev pub open_checks : List ℕ → State → List Check
open_checks marks g = marked_checks marks g ++ (quiet_checks g ++ opening_checks (may_go (marked marks) g.dist) g)

unfoldable pub opened : (ℕ → Bool) → ℕ → State → Outcome Buffers Opening
opened free i g =
    let s = g.rec.sides in
    let t = test_at s g.status i in
    outcome
    (done (record { index = i; k = t.k; m = t.m; face = t.face; next = count g.rec 0 1 1 (pos t.k -ℤ pos t.m) }))
    (buffers g.dist (without s free g.status i))

-- none stands for no voxel to open, which number 15 has refused
abbrev pub the_voxel : Option ℕ → ℕ
the_voxel None = 0
the_voxel (Some i) = i

unfoldable pub open_next : List ℕ → State → Outcome Buffers Opening
open_next marks g =
    let free = may_go (marked marks) g.dist in
    unless (open_checks marks g) (untouched (lent_to g)) (opened free (the_voxel (to_open free g)) g)

-- ---- finish

-- -w, or -1 where w = 0
unfoldable pub closed : ℤ → ℤ
closed (pos w) = negsuc (w - 1)
closed (negsuc w) = negsuc w

unfoldable pub closed_at : List ℤ → List ℕ → ℕ → ℤ
closed_at dist status i = cond (is_kept status i) (closed (distance_at dist i)) (distance_at dist i)

abbrev pub as_finished : Record → Record
as_finished r =
    record {
      sides = r.sides;
      allowed = r.allowed;
      openings = r.openings;
      removals = r.removals;
      examinations = r.examinations;
      euler = r.euler;
      finished = true;
    }

abbrev pub finish_checks : State → List Check
finish_checks g = working_checks g ++ quiet_checks g

unfoldable pub finished_of : State → Outcome Buffers Record
finished_of g = outcome (done (as_finished g.rec)) (buffers (map (closed_at g.dist g.status) (voxels g.rec.sides)) g.status)

unfoldable pub finish : State → Outcome Buffers Record
finish g = unless (finish_checks g) (untouched (lent_to g)) (finished_of g)

-- ---- the state that holds after a call: after a refusal the record is the one that was given

abbrev pub record_after : {A : Type 0} → (A → Record) → Record → Reply A → Record
record_after next given (refused n) = given
record_after next given (done a) = next a

abbrev pub after : {A : Type 0} → (A → Record) → State → Outcome Buffers A → State
after next g o = state (record_after next g.rec o.answer) o.lent.dist o.lent.status
