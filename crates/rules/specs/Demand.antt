-- Document 01, "The carving machine", demand 3: a list of calls on a begun grid, the sums of its answers, and what holds after it. By document
-- 02's CR 7 it holds whatever marks each call gets.
use Rattle.std.specs.Prelude.{◌≡◌, Bool, true, false, not, ◌&&◌, List, [], ◌∷◌, ℕ, ◌+◌, ◌*◌, ◌≤◌, ltb, length, ℤ, pos, ◌+ℤ◌, ◌-ℤ◌}
use Rattle.cells.specs.Linked.{OnePiece}
use Rattle.cells.specs.Cells.{passes}
use Rattle.rules.specs.declared.Sides.{Sides}
use Rattle.rules.specs.declared.Record.{Record}
use Rattle.rules.specs.Grid.{size, touch, share_face}
use Rattle.rules.specs.declared.Carving.{Carving}
use Rattle.rules.specs.declared.Opening.{Opening}
use Rattle.rules.specs.Answer.{Reply, refused, done, Removal}
use Rattle.rules.specs.Fill.{filled}
use Rattle.rules.specs.Begin.{is_in, inside, in_box, begin}
use Rattle.rules.specs.Meaning.{found}
use Rattle.rules.specs.Status.{is_kept, test_at, any_pending}
use Rattle.rules.specs.Checks.{AllHold}
use Rattle.rules.specs.Marks.{marked, stray_mark}
use Rattle.rules.specs.Machine.{State, state, after, may_go, sooner, state_checks, carved, carve, take, open_next, finish}
use Rattle.rules.specs.Body.{body_of, euler_of}

-- each but finish is lent marks of its own
pub data Call : Type 0 where
  carve_up_to : List ℕ → ℕ → Call
  take_at : List ℕ → ℕ → Call
  open_one : List ℕ → Call
  finish_it : Call

-- ---- what the answers of a list add up to

pub record Sums : Type 0 where
  -- what carve answered
  pub examined : ℕ
  -- what carve answered, and one more for each take and each open not refused
  pub removed : ℕ
  -- the open calls not refused, and the sum of the k - m that they answered
  pub opened : ℕ
  pub change : ℤ

abbrev pub sums : ℕ → ℕ → ℕ → ℤ → Sums
sums examined removed opened change = record { examined = examined; removed = removed; opened = opened; change = change }

abbrev pub nothing : Sums
nothing = sums 0 0 0 (pos 0)

abbrev pub both : Sums → Sums → Sums
both p q = sums (p.examined + q.examined) (p.removed + q.removed) (p.opened + q.opened) (p.change +ℤ q.change)

abbrev pub of_carve : Reply Carving → Sums
of_carve (refused n) = nothing
of_carve (done r) = sums r.examined r.removed 0 (pos 0)

abbrev pub of_take : Reply Removal → Sums
of_take (refused n) = nothing
of_take (done r) = sums 0 1 0 (pos 0)

abbrev pub of_open : Reply Opening → Sums
of_open (refused n) = nothing
of_open (done r) = sums 0 1 1 (pos r.k -ℤ pos r.m)

-- ---- the list: each call is lent the same buffers, and given the record that holds after the call before it

pub record Run : Type 0 where
  pub end : State
  pub answers : Sums

abbrev pub stop : State → Sums → Run
stop g a = record { end = g; answers = a }

unfoldable pub call : Call → State → Run
call (carve_up_to marks limit) g = let o = carve marks limit g in stop (after (λ r. r.next) g o) (of_carve o.answer)
call (take_at marks i) g = let o = take marks i g in stop (after (λ r. r.next) g o) (of_take o.answer)
call (open_one marks) g = let o = open_next marks g in stop (after (λ r. r.next) g o) (of_open o.answer)
call finish_it g = stop (after (λ r. r) g (finish g)) nothing

unfoldable pub run : List Call → State → Run
run [] g = stop g nothing
run (c ∷ cs) g = let first = call c g in let rest = run cs first.end in stop rest.end (both first.answers rest.answers)

-- ---- of every grid that begin accepts: what it was given, the marks that it was lent, and the record and the buffers as it left them

abbrev pub EveryBegun : (Sides → ℕ → List ℤ → List ℕ → State → Type 0) → Type 0
EveryBegun P =
    (s : Sides) (T : ℕ) (values : List ℤ) (marks : List ℕ) (dist : List ℤ) (status : List ℕ) (r : Record)
    → (begin s T values marks dist status).answer ≡ done r
    → let b = begin s T values marks dist status in P s T values marks (state r b.lent.dist b.lent.status)

-- what a start promises: of the sides, T, the values that it works on, the marks that it is lent, the body that it starts with, and the record and the
-- buffers as it leaves them
abbrev pub Promise : Type 1
Promise = Sides → ℕ → List ℤ → List ℕ → (ℕ → Bool) → State → Type 0

-- begin works on the values with gaps filled, and starts with the smallest box that holds their S
abbrev pub FromBegin : Promise → Type 0
FromBegin P = EveryBegun (λ s T values marks begun. let used = filled s values in P s T used marks (in_box s (inside s used)) begun)

-- ---- the marks that a list of calls is lent, from a state on: a refused call does nothing, so its marks do not count

abbrev pub is_refused : {A : Type 0} → Reply A → Bool
is_refused (refused n) = true
is_refused (done a) = false

unfoldable pub refuses : State → Call → Bool
refuses g (carve_up_to marks limit) = is_refused (carve marks limit g).answer
refuses g (take_at marks i) = is_refused (take marks i g).answer
refuses g (open_one marks) = is_refused (open_next marks g).answer
refuses g finish_it = is_refused (finish g).answer

-- the marks of a call have a property
abbrev pub Lends : (List ℕ → Type 0) → Call → Type 0
Lends P (carve_up_to marks limit) = P marks
Lends P (take_at marks i) = P marks
Lends P (open_one marks) = P marks
Lends P finish_it = Unit {0}

-- the marks of every call that is not refused have it
abbrev pub AllLend : (List ℕ → Type 0) → State → List Call → Type 0
AllLend P g [] = Unit {0}
AllLend P g (c ∷ cs) = (refuses g c ≡ false → Lends P c) × (AllLend P (call c g).end cs)

-- marks unchanged from begin on
abbrev pub Unchanged : List ℕ → State → List Call → Type 0
Unchanged marks g calls = AllLend (λ lent. lent ≡ marks) g calls

-- ---- what holds after the list, whatever calls it has: the start was lent the marks and left the state begun, and start is the body that it left

pub record Demand (s : Sides) (values : List ℤ) (marks : List ℕ) (start : ℕ → Bool) (begun : State) (calls : List Call) (g : State) (answers : Sums)
    : Type 0 where
  -- the record has the grid's sides
  pub same-sides : g.rec.sides ≡ s
  -- every inside voxel is kept
  pub inside-kept : (i : ℕ) → is_in (inside s values) i ≡ true → is_kept g.status i ≡ true
  -- the background is in one piece
  pub background-one-piece : OnePiece (λ i. ltb i (size s) && not (is_kept g.status i)) (share_face s)
  -- the Euler number is corners - edges + faces - cubes of the kept voxels, and 1 with the sum of k - m over the openings made
  pub euler-of-body : g.rec.euler ≡ euler_of s (body_of s (is_kept g.status))
  pub euler-of-openings : g.rec.euler ≡ pos 1 +ℤ answers.change
  -- with no opening the body is in one piece and its Euler number is 1
  pub unopened-one-piece : answers.opened ≡ 0 → OnePiece (is_kept g.status) (touch s)
  pub unopened-euler : answers.opened ≡ 0 → g.rec.euler ≡ pos 1
  -- where nothing is pending, and marks are unchanged from begin on, no kept outside voxel passes that is not pinned
  pub none_passes : Unchanged marks begun calls → any_pending s g.status ≡ false → (i : ℕ) → is_kept g.status i ≡ true
      → is_in (inside s values) i ≡ false → (marked marks).pinned i ≡ false → passes (test_at s g.status i) ≡ false
  -- examinations are at most the voxels of the body at the start and 26 times the removals
  pub examinations-bound : answers.examined ≤ found s start + 26 * answers.removed
  -- the record's three counts
  pub openings-count : g.rec.openings ≡ answers.opened
  pub removals-count : g.rec.removals ≡ answers.removed
  pub examinations-count : g.rec.examinations ≡ answers.examined

-- any list of calls from there (proofs/Demand.antt)
abbrev pub DemandAfter : Promise
DemandAfter s T values marks start begun =
    (calls : List Call) → let after = run calls begun in Demand s values marks start begun calls after.end after.answers

abbrev pub DemandIsMet : Type 0
DemandIsMet = FromBegin DemandAfter

-- a voxel that every call of a list pins, refused ones aside, is not lost, from any state (proofs/Pinned.antt)
abbrev pub PinnedAreKept : Type 0
PinnedAreKept =
    (g : State) (i : ℕ) → is_kept g.status i ≡ true → (calls : List Call) → AllLend (λ marks. (marked marks).pinned i ≡ true) g calls
    → is_kept (run calls g).end.status i ≡ true

-- nor does a voxel come back that is gone, whatever the calls and their marks (proofs/Pinned.antt)
abbrev pub GoneStaysGone : Type 0
GoneStaysGone =
    (g : State) (i : ℕ) → is_kept g.status i ≡ false → (calls : List Call) → is_kept (run calls g).end.status i ≡ false

-- ---- what the program relies on

-- no list of calls makes a begun grid unfit: no call of it is refused with 1 or 7, nor with 2 but for the length of its own marks (proofs/NeverUnfit.antt)
abbrev pub FitAfter : Promise
FitAfter s T values marks start begun = (calls : List Call) → AllHold (state_checks (run calls begun).end)

abbrev pub NeverUnfit : Type 0
NeverUnfit = FromBegin FitAfter

-- a carve of 27 n examinations or more, on a grid that is not finished, with n marks of at most 3, is not refused and leaves nothing pending
abbrev pub CarveEndsAfter : Promise
CarveEndsAfter s T values marks start begun =
    (calls : List Call) (lent : List ℕ) → length lent ≡ size s → stray_mark lent ≡ false → (limit : ℕ) → 27 * size s ≤ limit
    → let g = (run calls begun).end in
    let m = marked lent in
    g.rec.finished ≡ false
    → (carve lent limit g ≡ carved (may_go m g.dist) (sooner m g.dist) limit g) × (any_pending s (carve lent limit g).lent.status ≡ false)

abbrev pub CarveEnds : Type 0
CarveEnds = FromBegin CarveEndsAfter
