-- Document 01, "Numbers that come from the input" and "Numbers that come from the state", with document 02's 28, 29 and 30: checks in another order,
-- or by another condition, answer another number on some input. proofs/WrongNumbers.antt shows it by computation.
use Rattle.std.specs.Prelude.{◌≡◌, Bool, not, ◌&&◌, ◌||◌, List, [], ◌∷◌, ◌++◌, ℕ, ◌*◌, leb, ltb, eqb, length, ℤ, nat_abs}
use Rattle.cells.specs.Groups.{any}
use Rattle.cells.specs.Cells.{passes}
use Rattle.rules.specs.declared.Sides.{Sides}
use Rattle.rules.specs.declared.Record.{Record}
use Rattle.rules.specs.Value.{stray, beyond}
use Rattle.rules.specs.Grid.{fit_sides, size, voxels, on_border, measured_negative, value_at}
use Rattle.rules.specs.Checks.{Check, ◌when◌, first_failing}
use Rattle.rules.specs.Marks.{marked, stray_mark, wrong_marks}
use Rattle.rules.specs.Begin.{begin_checks}
use Rattle.rules.specs.Status.{status_of, is_kept, any_pending, test_at}
use Rattle.rules.specs.Machine.{State, is_inside, may_go, unfit_counts, unfit_voxel, unfit, wrong_length, state_checks, working_checks, marked_checks}
use Rattle.rules.specs.Machine.{take_checks, to_open, is_none, open_checks, finish_checks}

-- ---- begin: 1, 2, 28, 29, 3, 4

-- the number is another on some input
abbrev pub OtherBeginChecks : (Sides → List ℤ → List ℕ → List ℤ → List ℕ → List Check) → Type 0
OtherBeginChecks checks =
    ((s : Sides) (values : List ℤ) (marks : List ℕ) (dist : List ℤ) (status : List ℕ)
    → first_failing (begin_checks s values marks dist status) ≡ first_failing (checks s values marks dist status)) → ⊥

abbrev pub side_check : Sides → Check
side_check s = 1 when not (fit_sides s)

abbrev pub begin_lengths : Sides → List ℤ → List ℕ → List ℤ → List ℕ → Check
begin_lengths s values marks dist status =
    2 when (not (eqb (length values) (size s) && (eqb (length dist) (size s) && eqb (length status) (size s))) || wrong_marks s marks)

abbrev pub range_check : List ℤ → Check
range_check values = 28 when any stray values

abbrev pub mark_check : List ℕ → Check
mark_check marks = 29 when stray_mark marks

abbrev pub body_checks : Sides → List ℤ → List Check
body_checks s values =
    3 when any (λ i. on_border s i && measured_negative (value_at values i)) (voxels s)
    ∷ 4 when not (any (λ i. measured_negative (value_at values i)) (voxels s))
    ∷ []

pub record WrongBegins : Type 0 where
  pub length-first : OtherBeginChecks (λ s v m d t. begin_lengths s v m d t ∷ side_check s ∷ range_check v ∷ mark_check m ∷ body_checks s v)
  pub range-before-length : OtherBeginChecks (λ s v m d t. side_check s ∷ range_check v ∷ begin_lengths s v m d t ∷ mark_check m ∷ body_checks s v)
  pub marks-before-range : OtherBeginChecks (λ s v m d t. side_check s ∷ begin_lengths s v m d t ∷ mark_check m ∷ range_check v ∷ body_checks s v)
  pub range_last : OtherBeginChecks (λ s v m d t. side_check s ∷ begin_lengths s v m d t ∷ mark_check m ∷ body_checks s v ++ (range_check v ∷ []))
  pub marks-last : OtherBeginChecks (λ s v m d t. side_check s ∷ begin_lengths s v m d t ∷ range_check v ∷ body_checks s v ++ (mark_check m ∷ []))
  -- 28 for what 32 bits cannot say
  pub range-of-32-bits :
      OtherBeginChecks (λ s v m d t. side_check s ∷ begin_lengths s v m d t ∷ 28 when any (beyond 2147483647) v ∷ mark_check m ∷ body_checks s v)

-- ---- calls that are lent marks: 1, 2, 7, 29, 8

abbrev pub OtherMarkedChecks : (List ℕ → State → List Check) → Type 0
OtherMarkedChecks checks = ((marks : List ℕ) (g : State) → first_failing (marked_checks marks g) ≡ first_failing (checks marks g)) → ⊥

abbrev pub state_side : State → Check
state_side g = side_check g.rec.sides

abbrev pub lengths : List ℕ → State → Check
lengths marks g = 2 when (wrong_length g || wrong_marks g.rec.sides marks)

abbrev pub fit_check : State → Check
fit_check g = 7 when unfit g

abbrev pub work_check : State → Check
work_check g = 8 when g.rec.finished

pub record WrongStates : Type 0 where
  pub length-first : OtherMarkedChecks (λ m g. lengths m g ∷ state_side g ∷ fit_check g ∷ mark_check m ∷ work_check g ∷ [])
  pub unfit-before-length : OtherMarkedChecks (λ m g. state_side g ∷ fit_check g ∷ lengths m g ∷ mark_check m ∷ work_check g ∷ [])
  pub marks-before-unfit : OtherMarkedChecks (λ m g. state_side g ∷ lengths m g ∷ mark_check m ∷ fit_check g ∷ work_check g ∷ [])
  pub finished-before-marks : OtherMarkedChecks (λ m g. state_side g ∷ lengths m g ∷ fit_check g ∷ work_check g ∷ mark_check m ∷ [])
  pub finished-before-unfit : OtherMarkedChecks (λ m g. state_side g ∷ lengths m g ∷ work_check g ∷ fit_check g ∷ mark_check m ∷ [])
  -- marks of any number
  pub marks-of-any-length : OtherMarkedChecks (λ m g. state_side g ∷ 2 when wrong_length g ∷ fit_check g ∷ mark_check m ∷ work_check g ∷ [])
  -- finish, which is lent none: 8 before 7
  pub finish-before-unfit :
      ((g : State) → first_failing (working_checks g) ≡ first_failing (work_check g ∷ state_checks g)) → ⊥

-- ---- number 7: its limits are fit

abbrev pub OtherCounts : (Record → Bool) → Type 0
OtherCounts counts = ((r : Record) → unfit_counts r ≡ counts r) → ⊥

abbrev pub counts_by : (ℕ → ℕ → Bool) → (ℕ → ℕ → Bool) → (ℕ → ℕ → Bool) → (ℕ → ℕ → Bool) → Record → Bool
counts_by openings removals examinations euler r =
    openings r.allowed r.openings
    || (removals (size r.sides) r.removals
    || (examinations (27 * size r.sides) r.examinations || euler (8 * size r.sides) (nat_abs r.euler)))

abbrev pub OtherVoxel : (Sides → List ℤ → List ℕ → ℕ → Bool) → Type 0
OtherVoxel voxel = ((s : Sides) (dist : List ℤ) (status : List ℕ) (i : ℕ) → unfit_voxel s dist status i ≡ voxel s dist status i) → ⊥

abbrev pub stray_status : ℕ → Bool
stray_status x = not (eqb x 0 || (eqb x 1 || eqb x 3))

pub record WrongFits : Type 0 where
  pub openings-of-T : OtherCounts (counts_by leb ltb ltb ltb)
  pub removals-of-n : OtherCounts (counts_by ltb leb ltb ltb)
  pub examinations-of-27-n : OtherCounts (counts_by ltb ltb leb ltb)
  pub euler-of-8-n : OtherCounts (counts_by ltb ltb ltb leb)
  -- a status of 2; a kept border voxel; a pending voxel of S
  pub takes-2 : OtherVoxel (λ s d t i. ltb 3 (status_of t i) || ((on_border s i && not (eqb (status_of t i) 0)) || (is_inside d i && not (eqb (status_of t i) 1))))
  pub takes-the-border : OtherVoxel (λ s d t i. stray_status (status_of t i) || (is_inside d i && not (eqb (status_of t i) 1)))
  pub takes-pending-inside :
      OtherVoxel (λ s d t i. stray_status (status_of t i) || ((on_border s i && not (eqb (status_of t i) 0)) || (is_inside d i && eqb (status_of t i) 0)))

-- ---- take: then 5, 10, 11, 30, 12

abbrev pub OtherTakeChecks : (List ℕ → ℕ → State → List Check) → Type 0
OtherTakeChecks checks = ((marks : List ℕ) (i : ℕ) (g : State) → first_failing (take_checks marks i g) ≡ first_failing (checks marks i g)) → ⊥

abbrev pub index_check : ℕ → State → Check
index_check i g = 5 when leb (size g.rec.sides) i

abbrev pub gone_check : ℕ → State → Check
gone_check i g = 10 when not (is_kept g.status i)

abbrev pub inside_check : ℕ → State → Check
inside_check i g = 11 when is_inside g.dist i

abbrev pub pin_check : List ℕ → ℕ → Check
pin_check marks i = 30 when (marked marks).pinned i

abbrev pub test_check : ℕ → State → Check
test_check i g = 12 when not (passes (test_at g.rec.sides g.status i))

pub record WrongTakes : Type 0 where
  pub index-before-finished :
      OtherTakeChecks (λ m i g. state_checks g
      ++ (index_check i g ∷ mark_check m ∷ work_check g ∷ gone_check i g ∷ inside_check i g ∷ pin_check m i ∷ test_check i g ∷ []))
  pub gone-before-index : OtherTakeChecks (λ m i g. marked_checks m g ++ (gone_check i g ∷ index_check i g ∷ inside_check i g ∷ pin_check m i ∷ test_check i g ∷ []))
  pub pin-before-gone : OtherTakeChecks (λ m i g. marked_checks m g ++ (index_check i g ∷ pin_check m i ∷ gone_check i g ∷ inside_check i g ∷ test_check i g ∷ []))
  pub pin-before-inside : OtherTakeChecks (λ m i g. marked_checks m g ++ (index_check i g ∷ gone_check i g ∷ pin_check m i ∷ inside_check i g ∷ test_check i g ∷ []))
  pub pin-after-test : OtherTakeChecks (λ m i g. marked_checks m g ++ (index_check i g ∷ gone_check i g ∷ inside_check i g ∷ test_check i g ∷ pin_check m i ∷ []))
  pub test-before-inside : OtherTakeChecks (λ m i g. marked_checks m g ++ (index_check i g ∷ gone_check i g ∷ test_check i g ∷ inside_check i g ∷ pin_check m i ∷ []))
  -- a voxel of S is taken if it passes
  pub takes-inside : OtherTakeChecks (λ m i g. marked_checks m g ++ (index_check i g ∷ gone_check i g ∷ pin_check m i ∷ test_check i g ∷ []))

-- ---- open and finish: then 13, and for open 14, 15

abbrev pub OtherOpenChecks : (List ℕ → State → List Check) → Type 0
OtherOpenChecks checks = ((marks : List ℕ) (g : State) → first_failing (open_checks marks g) ≡ first_failing (checks marks g)) → ⊥

abbrev pub pending_check : State → Check
pending_check g = 13 when any_pending g.rec.sides g.status

abbrev pub allowed_check : State → Check
allowed_check g = 14 when eqb g.rec.openings g.rec.allowed

abbrev pub none_check : List ℕ → State → Check
none_check marks g = 15 when is_none (to_open (may_go (marked marks) g.dist) g)

pub record WrongOpens : Type 0 where
  pub pending-before-finished : OtherOpenChecks (λ m g. state_checks g ++ (mark_check m ∷ pending_check g ∷ work_check g ∷ allowed_check g ∷ none_check m g ∷ []))
  pub allowed-before-pending : OtherOpenChecks (λ m g. marked_checks m g ++ (allowed_check g ∷ pending_check g ∷ none_check m g ∷ []))
  pub none-before-allowed : OtherOpenChecks (λ m g. marked_checks m g ++ (pending_check g ∷ none_check m g ∷ allowed_check g ∷ []))
  -- it claims 15, whatever is there
  pub claims-15 : OtherOpenChecks (λ m g. marked_checks m g ++ (pending_check g ∷ allowed_check g ∷ 15 when not g.rec.finished ∷ []))
  -- finish closes while a voxel is pending
  pub closes-while-pending : ((g : State) → first_failing (finish_checks g) ≡ first_failing (working_checks g)) → ⊥

-- ---- by their own parts, in their own order, the checks are the rule's: a wrong one differs in what its clause says

pub record OwnChecks : Type 0 where
  pub begins : (s : Sides) (v : List ℤ) (m : List ℕ) (d : List ℤ) (t : List ℕ)
      → begin_checks s v m d t ≡ side_check s ∷ begin_lengths s v m d t ∷ range_check v ∷ mark_check m ∷ body_checks s v
  pub marks : (m : List ℕ) (g : State) → marked_checks m g ≡ state_side g ∷ lengths m g ∷ fit_check g ∷ mark_check m ∷ work_check g ∷ []
  pub counts : (r : Record) → unfit_counts r ≡ counts_by ltb ltb ltb ltb r
  pub takes : (m : List ℕ) (i : ℕ) (g : State)
      → take_checks m i g ≡ marked_checks m g ++ (index_check i g ∷ gone_check i g ∷ inside_check i g ∷ pin_check m i ∷ test_check i g ∷ [])
  pub opens : (m : List ℕ) (g : State) → open_checks m g ≡ marked_checks m g ++ (pending_check g ∷ allowed_check g ∷ none_check m g ∷ [])
