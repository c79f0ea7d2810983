-- Document 01, "What the second supplier may hold us to" and "Shortcuts that break it": machines that must be rejected, as definitions, and
-- which clause of demand 3 rejects each on a small grid; wrong fills of gaps; marks read by another rule, a mark of 3 among them; another face of
-- carve. proofs/Wrong.antt shows it by computation.
use Rattle.std.specs.Prelude.{◌≡◌, ◌↔◌, Bool, true, false, not, cond, ◌&&◌, ◌||◌, List, [], ◌∷◌, ℕ, zero, suc, eqb, ℤ, pos, length, set, replicate, None, Some}
use Rattle.cells.specs.Groups.{any, filter, groups}
use Rattle.cells.specs.Cells.{positions, passes}
use Rattle.rules.specs.declared.Sides.{Sides}
use Rattle.rules.specs.declared.Record.{Record}
use Rattle.rules.specs.Value.{is_missing}
use Rattle.rules.specs.Grid.{apart, Voxel, voxel, voxels, on_border, touch, share_face, neighbourhood, measured_negative, value_at}
use Rattle.rules.specs.Fill.{around, enclosed, in_some}
use Rattle.rules.specs.Gaps.{Enclosed}
use Rattle.rules.specs.Checks.{unless}
use Rattle.rules.specs.declared.Carving.{Carving}
use Rattle.rules.specs.Answer.{refused, Outcome, untouched, Buffers, buffers, is_done, NoConstant, Answers, Removal}
use Rattle.rules.specs.Status.{is_kept, is_pending, first_of, test_at, without, status_of, rested, openable}
use Rattle.rules.specs.Marks.{Marked, mark_of, marked, no_marks}
use Rattle.rules.specs.PinFirst.{marked_before, begin_by, carve_by}
use Rattle.rules.specs.Machine.{State, state, lent_to, outside, may_go, farther, sooner, count, marked_checks, carved, carve, take_checks, taken, take}
use Rattle.rules.specs.Machine.{to_open, open_next, finish}
use Rattle.rules.specs.Begin.{is_in, exposed, status_at, begin_checks, begun, begin}
use Rattle.rules.specs.Demand.{Call, Unchanged, Sums, Demand}
use Rattle.rules.specs.Faces.{faces_of, last_or}
use Rattle.rules.specs.Cases.{sides, plain_carve, plain_take, carved_to, carved_face, values_c, case_c, case_d, values_d, values_arc, arc, bar}
use Rattle.rules.specs.Cases.{mark_at, mark_d}

-- ---- a carve by another rule: whether the voxel goes, and the status bytes after it went

unfoldable pub carving_by : (List ℕ → ℕ → Bool) → (List ℕ → ℕ → List ℕ) → ℕ → State → State
carving_by goes gone zero g = g
carving_by goes gone (suc limit) g =
    elim (first_of g.rec.sides (farther g.dist) (is_pending g.status)) [
      | None ↦ g
      | Some i ↦ carving_by goes gone limit (examined_by (goes g.status i) i)
    ]
  where
    examined_by : Bool → ℕ → State
    examined_by true i = state (count g.rec 1 1 0 (pos 0)) g.dist (gone g.status i)
    examined_by false i = state (count g.rec 1 0 0 (pos 0)) g.dist (set g.status i (rested (status_of g.status i)))

-- the rule's own parts
abbrev pub right : State → List ℕ → ℕ → Bool
right g status i = passes (test_at g.rec.sides status i)

abbrev pub wakes : State → List ℕ → ℕ → List ℕ
wakes g status i = without g.rec.sides (outside g.dist) status i

-- it keeps the whole box but clears pending
unfoldable pub only_clears : State → State
only_clears g = carving_by (λ status i. false) (wakes g) 9 g

-- it tests k alone: it drills C
unfoldable pub by_kalone : State → State
by_kalone g = carving_by (λ status i. eqb (test_at g.rec.sides status i).k 1) (wakes g) 9 g

-- it drops a failed voxel for good: a removal wakes nobody
unfoldable pub drops_failed : State → State
drops_failed g = carving_by (right g) (λ status i. set status i 0) 9 g

-- it counts groups of kept neighbours that share faces, in place of groups of touched cells
abbrev pub face_groups : Sides → List ℕ → ℕ → ℕ
face_groups s status i = length (groups (λ p q. eqb (apart (at p) (at q)) 1) (filter (neighbourhood s (is_kept status) i) positions))
  where
    at : ℕ → Voxel
    at p = voxel (sides 3 3 3) p

unfoldable pub by_face_groups : State → State
by_face_groups g = carving_by (λ status i. eqb (face_groups g.rec.sides status i) 1 && eqb (test_at g.rec.sides status i).m 1) (wakes g) 9 g

-- it invents an examination, or an Euler number
unfoldable pub invents : ℕ → ℤ → State → State
invents examined change g = state (count g.rec examined 0 0 change) g.dist g.status

-- ---- what is proved

-- demand 3 fails of the state after calls without marks, whatever the answers were, and whatever body it is said to have started from
abbrev pub Rejected : Sides → List ℤ → State → Type 0
Rejected s values g =
    (start : ℕ → Bool) (begun : State) (calls : List Call) → Unchanged (no_marks s) begun calls → (answers : Sums)
    → Demand s values (no_marks s) start begun calls g answers → ⊥

pub record WrongMachines : Type 0 where
  pub only-clears : Rejected (sides 4 4 3) values_d (only_clears case_d)
  pub k-alone : Rejected (sides 5 5 3) values_c (by_kalone (case_c 0))
  pub drops-failed : Rejected (sides 5 5 3) values_arc (drops_failed arc)
  pub face-groups : Rejected (sides 4 4 3) values_d (by_face_groups case_d)
  pub invented-euler : Rejected (sides 4 4 3) values_d (invents 0 (pos 1) case_d)
  -- counts that the record has and the answers have not
  pub invented-examination : (start : ℕ → Bool) (begun : State) (calls : List Call) (answers : Sums) → answers.examined ≡ 0
      → Demand (sides 4 4 3) values_d (no_marks (sides 4 4 3)) start begun calls (invents 1 (pos 0) case_d) answers → ⊥

-- no call of the machine always refuses or gives a constant: of each one argument is left open
pub record MachineAnswers : Type 0 where
  pub begins : Answers (λ (values : List ℤ). (begin (sides 4 4 3) 0 values (no_marks (sides 4 4 3)) case_d.dist case_d.status).answer)
  pub carves : Answers (λ (marks : List ℕ). (carve marks 1 case_d).answer)
  pub takes : Answers (λ (i : ℕ). (plain_take i case_d).answer)
  pub opens : Answers (λ (marks : List ℕ). (open_next marks (carved_to 9 (bar (replicate 45 (pos 1))))).answer)
  pub finishes : Answers (λ (limit : ℕ). (finish (carved_to limit case_d)).answer)
  -- nor do two that are done answer the same
  pub begins-otherwise : NoConstant (λ (T : ℕ). (begin (sides 4 4 3) T values_d (no_marks (sides 4 4 3)) case_d.dist case_d.status).answer)
  pub carves-otherwise : NoConstant (λ (limit : ℕ). (plain_carve limit case_d).answer)

-- ---- a refusal that has written already

-- begin and take that leave the buffers otherwise where they refuse
unfoldable pub begin_writing : (Buffers → Buffers) → Sides → ℕ → List ℤ → List ℕ → List ℤ → List ℕ → Outcome Buffers Record
begin_writing left s T values marks dist status =
    unless (begin_checks s values marks dist status) (untouched (left (buffers dist status))) (begun s T values (marked marks))

unfoldable pub take_writing : (Buffers → Buffers) → List ℕ → ℕ → State → Outcome Buffers Removal
take_writing left marks i g = unless (take_checks marks i g) (untouched (left (lent_to g))) (taken (may_go (marked marks) g.dist) i g)

abbrev pub OtherRefusals : (Buffers → Buffers) → Type 0
OtherRefusals left =
    ((s : Sides) (T : ℕ) (values : List ℤ) (marks : List ℕ) (dist : List ℤ) (status : List ℕ)
    → begin s T values marks dist status ≡ begin_writing left s T values marks dist status) → ⊥

-- the status bytes cleared; one voxel gone
abbrev pub cleared : Buffers → Buffers
cleared b = buffers b.dist (replicate (length b.status) 0)

abbrev pub gone_first : ℕ → Buffers → Buffers
gone_first i b = buffers b.dist (set b.status i 0)

pub record WrongRefusals : Type 0 where
  -- begin clears the status before it looks for a body; it writes one distance
  pub begin-clears : OtherRefusals cleared
  pub begin-writes-a-distance : OtherRefusals (λ b. buffers (set b.dist 0 (pos 0)) b.status)
  -- take removes the voxel before it tests it
  pub take-removes : ((marks : List ℕ) (i : ℕ) (g : State) → take marks i g ≡ take_writing (gone_first i) marks i g) → ⊥
  -- with the buffers as they were lent they are the rule's
  pub begin-own : (s : Sides) (T : ℕ) (values : List ℤ) (marks : List ℕ) (dist : List ℤ) (status : List ℕ)
      → begin s T values marks dist status ≡ begin_writing (λ b. b) s T values marks dist status
  pub take_own : (marks : List ℕ) (i : ℕ) (g : State) → take marks i g ≡ take_writing (λ b. b) marks i g

-- ---- document 02's CR 6: fills by another rule, how missing voxels are joined and which groups of them are filled

unfoldable pub fills_by : (Sides → ℕ → ℕ → Bool) → (Sides → List ℤ → List ℕ → Bool) → Sides → List ℤ → ℕ → Bool
fills_by joined fills s values i = in_some (filter (fills s values) (groups (joined s) (filter (λ j. is_missing (value_at values j)) (voxels s)))) i

-- a gap at the border is filled, if its other face neighbours are negative
unfoldable pub walled_in : Sides → List ℤ → List ℕ → Bool
walled_in s values gap = not (any (λ j. not (measured_negative (value_at values j))) (around s gap))

-- every gap off the border is, whatever its other face neighbours are
unfoldable pub off_border : Sides → List ℤ → List ℕ → Bool
off_border s values gap = not (any (on_border s) gap)

-- it does not fill just the gaps that the request names
abbrev pub OtherThanEnclosed : (Sides → List ℤ → ℕ → Bool) → Type 0
OtherThanEnclosed fills = ((s : Sides) (values : List ℤ) (i : ℕ) → (fills s values i ≡ true) ↔ (Enclosed s values i)) → ⊥

pub record WrongFills : Type 0 where
  pub by-touching : OtherThanEnclosed (fills_by touch enclosed)
  pub at-the-border : OtherThanEnclosed (fills_by share_face walled_in)
  pub beside-any-value : OtherThanEnclosed (fills_by share_face off_border)

-- ---- document 02's CR 7: marks read by another rule

-- carve by other voxels that may go, or in another order
unfoldable pub carve_otherwise : (Marked → List ℤ → ℕ → Bool) → (Marked → List ℤ → ℕ → ℕ → Bool) → List ℕ → ℕ → State → Outcome Buffers Carving
carve_otherwise free ahead marks limit g =
    let m = marked marks in
    unless (marked_checks marks g) (untouched (lent_to g)) (carved (free m g.dist) (ahead m g.dist) limit g)

abbrev pub OtherCarve : (Marked → List ℤ → ℕ → Bool) → (Marked → List ℤ → ℕ → ℕ → Bool) → Type 0
OtherCarve free ahead = ((marks : List ℕ) (limit : ℕ) (g : State) → carve marks limit g ≡ carve_otherwise free ahead marks limit g) → ⊥

-- begin with other voxels pending at first
abbrev pub OtherStart : (Sides → Marked → (ℕ → Bool) → ℕ → Bool) → Type 0
OtherStart waits =
    ((s : Sides) (m : Marked) (S : List ℕ) (kept : ℕ → Bool) (i : ℕ)
    → status_at s m S kept i ≡ cond (kept i) (cond (not (is_in S i) && waits s m kept i) 3 1) 0) → ⊥

-- open by other voxels, or in another order
abbrev pub OtherOpen : (Marked → List ℤ → ℕ → Bool) → (Marked → List ℤ → ℕ → ℕ → Bool) → Type 0
OtherOpen free ahead =
    ((m : Marked) (g : State) → to_open (may_go m g.dist) g
    ≡ first_of g.rec.sides (ahead m g.dist) (openable g.rec.sides (free m g.dist) g.status)) → ⊥

-- the farther goes ahead, and a hurry tells among equals alone
abbrev pub hurried_last : Marked → List ℤ → ℕ → ℕ → Bool
hurried_last m dist i j = farther dist i j || (not (farther dist j i) && (m.hurried i && not (m.hurried j)))

-- hurried voxels go ahead, and among them the index alone tells
abbrev pub hurried_by_index : Marked → List ℤ → ℕ → ℕ → Bool
hurried_by_index m dist i j = not (m.hurried j) && (m.hurried i || farther dist i j)

abbrev pub outside_alone : Marked → List ℤ → ℕ → Bool
outside_alone m dist i = outside dist i

pub record WrongMarks : Type 0 where
  -- a pinned voxel is woken and goes; is opened
  pub pins-hold-nothing : OtherCarve outside_alone sooner
  pub opens-pinned : OtherOpen outside_alone (λ m. farther)
  -- hurried voxels come after the distance; by index alone; open prefers them
  pub hurried-after-distance : OtherCarve may_go hurried_last
  pub hurried-by-index : OtherCarve may_go hurried_by_index
  pub hurries-unheard : OtherCarve may_go (λ m. farther)
  pub opens-hurried-first : OtherOpen may_go sooner
  -- at first only hurried voxels are pending; a hurried one only at the surface; a pinned one too
  pub only-hurried-pending : OtherStart (λ s m kept i. m.hurried i)
  pub hurried-at-the-surface : OtherStart (λ s m kept i. (m.hurried i || not (m.pinned i)) && exposed s kept i)
  pub pinned-pending : OtherStart (λ s m kept i. m.hurried i || exposed s kept i)

-- ---- document 02's CR 9: a mark of 3 read by another rule

-- begin, or carve, where marks ask for other sets
abbrev pub OtherBegin : (List ℕ → Marked) → Type 0
OtherBegin read =
    ((s : Sides) (T : ℕ) (values : List ℤ) (marks : List ℕ) (dist : List ℤ) (status : List ℕ)
    → begin s T values marks dist status ≡ begin_by (read marks) s T values marks dist status) → ⊥

abbrev pub OtherReading : (List ℕ → Marked) → Type 0
OtherReading read = ((marks : List ℕ) (limit : ℕ) (g : State) → carve marks limit g ≡ carve_by (read marks) marks limit g) → ⊥

-- a mark of 3 asks for nothing
abbrev pub threes_unread : List ℕ → Marked
threes_unread marks = record { pinned = λ i. eqb (mark_of marks i) 1; hurried = λ i. eqb (mark_of marks i) 2 }

pub record WrongThrees : Type 0 where
  -- hurried besides: pending from begin; examined first
  pub begins-hurried : OtherBegin marked_before
  pub carves-hurried : OtherReading marked_before
  -- not pinned: pending from begin; gone
  pub begins-unpinned : OtherBegin threes_unread
  pub carves-unpinned : OtherReading threes_unread
  -- refused
  pub begin-accepts : (n : ℕ) → (begin (sides 4 4 3) 0 values_d (mark_d 22 3) case_d.dist case_d.status).answer ≡ refused n → ⊥
  pub carve-accepts : (n : ℕ) → (carve (mark_d 22 3) 1 case_d).answer ≡ refused n → ⊥
  pub take-accepts : (n : ℕ) → (take (mark_d 22 3) 25 case_d).answer ≡ refused n → ⊥
  pub open-accepts : (n : ℕ) → (open_next (mark_at (sides 5 3 3) 21 3) (carved_to 9 (bar (replicate 45 (pos 1))))).answer ≡ refused n → ⊥

-- ---- document 02's CR 8: the face of another removal

-- a carve that is not refused does not tell that one of the faces of its removals
abbrev pub OtherLast : (List ℕ → ℕ) → Type 0
OtherLast told =
    ((marks : List ℕ) (limit : ℕ) (g : State) → is_done (carve marks limit g).answer ≡ true
    → let m = marked marks in
    carved_face marks limit g ≡ told (faces_of g.rec.sides (may_go m g.dist) (sooner m g.dist) limit g.status)) → ⊥

abbrev pub first_or : ℕ → List ℕ → ℕ
first_or n [] = n
first_or n (face ∷ faces) = face

pub record WrongLast : Type 0 where
  pub first-removal : OtherLast (first_or 6)
  pub none-is-0 : OtherLast (last_or 0)
