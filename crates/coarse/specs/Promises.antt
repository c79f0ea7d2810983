-- Document 02's CR 10, "Coarse run first": what follows from a coarse start. proofs/Promises.antt proves it.
use Rattle.std.specs.Prelude.{◌≡◌, true, false, List, ℕ, ◌<◌, ℤ}
use Rattle.cells.specs.Cells.{passes}
use Rattle.rules.specs.declared.Sides.{Sides}
use Rattle.rules.specs.declared.Record.{Record}
use Rattle.rules.specs.Grid.{size, is_in}
use Rattle.rules.specs.Answer.{refused, done}
use Rattle.rules.specs.Fill.{is_filled, filled}
use Rattle.rules.specs.Begin.{inside, worked, start_status, begin}
use Rattle.rules.specs.Fit.{Beginnable}
use Rattle.rules.specs.Marks.{Marked, marked}
use Rattle.rules.specs.Status.{is_kept, any_pending, test_at}
use Rattle.rules.specs.Machine.{State, state, is_inside, open_next}
use Rattle.rules.specs.Demand.{Call, Promise, run, DemandAfter, FitAfter, CarveEndsAfter}
use Rattle.rules.specs.Corollaries.{CountedAfter, ClosedAfter}
use Rattle.rules.specs.LongRange.{WithinRangeAfter}
use Rattle.rules.specs.Gaps.{FilledStays}
use Rattle.rules.specs.Slices.{CarvesAddAfter, CarvesJoinAfter}
use Rattle.rules.specs.Fifteen.{OpenAfter, NoneToOpenAfter, FifteenTellsAfter, FifteenWhenAfter, FifteenLastAfter, SameBodyAfter}
use Rattle.coarse.specs.Blocks.{halved, block_of, block_distances, block_marks, split_body}
use Rattle.coarse.specs.declared.CoarseStart.{CoarseStart}
use Rattle.coarse.specs.Coarse.{FourBuffers, block_box, unfit_coarse, begin_coarse}

-- ---- of every coarse start that is not refused: what it was given, the marks that it was lent, the four buffers as it left them, and its answer

abbrev pub EveryCoarse : (Sides → ℕ → List ℤ → List ℕ → FourBuffers → CoarseStart → Type 0) → Type 0
EveryCoarse P =
    (s : Sides) (T : ℕ) (values : List ℤ) (marks : List ℕ) (lent : FourBuffers) (c : CoarseStart)
    → (begin_coarse s T values marks lent).answer ≡ done c → P s T values marks (begin_coarse s T values marks lent).lent c

-- the state that a coarse start hands out
abbrev pub coarse_state : FourBuffers → CoarseStart → State
coarse_state l c = state c.next l.voxels.dist l.voxels.status

-- a coarse start works on the values with gaps filled, and starts with the kept blocks that it leaves, split again
abbrev pub FromCoarse : Promise → Type 0
FromCoarse P = EveryCoarse (λ s T values marks l c. P s T (filled s values) marks (split_body s l.blocks.status) (coarse_state l c))

-- ---- what begin promises with the box, a coarse start promises with that body

-- "Users who start coarse have demand 3 over any later list of its calls": "its examination bound counts this starting body in place of the box"
abbrev pub CoarseDemandIsMet : Type 0
CoarseDemandIsMet = FromCoarse DemandAfter

abbrev pub CoarseNeverUnfit : Type 0
CoarseNeverUnfit = FromCoarse FitAfter

abbrev pub CoarseCarveEnds : Type 0
CoarseCarveEnds = FromCoarse CarveEndsAfter

abbrev pub CoarseKeptAndRemoved : Type 0
CoarseKeptAndRemoved = FromCoarse CountedAfter

abbrev pub CoarseClosedWithoutOpenings : Type 0
CoarseClosedWithoutOpenings = FromCoarse ClosedAfter

abbrev pub CoarseStaysWithinRange : Type 0
CoarseStaysWithinRange = FromCoarse WithinRangeAfter

abbrev pub CoarseCarvesAdd : Type 0
CoarseCarvesAdd = FromCoarse CarvesAddAfter

abbrev pub CoarseCarvesJoin : Type 0
CoarseCarvesJoin = FromCoarse CarvesJoinAfter

abbrev pub CoarseGoneIsOpen : Type 0
CoarseGoneIsOpen = FromCoarse OpenAfter

abbrev pub CoarseNoneToOpen : Type 0
CoarseNoneToOpen = FromCoarse NoneToOpenAfter

abbrev pub CoarseFifteenTells : Type 0
CoarseFifteenTells = FromCoarse FifteenTellsAfter

abbrev pub CoarseFifteenWhen : Type 0
CoarseFifteenWhen = FromCoarse FifteenWhenAfter

abbrev pub CoarseFifteenIsLast : Type 0
CoarseFifteenIsLast = FromCoarse FifteenLastAfter

abbrev pub CoarseOneBody : Type 0
CoarseOneBody = FromCoarse (λ s T values marks start begun. FromCoarse (SameBodyAfter s values start begun))

abbrev pub CoarseFilledAreKept : Type 0
CoarseFilledAreKept =
    EveryCoarse (λ s T values marks l c.
    (i : ℕ) → is_filled s values i ≡ true → is_in (inside s (filled s values)) i ≡ true → FilledStays (coarse_state l c) i)

-- ---- what it leaves in the four buffers, for the values with gaps filled

pub record CoarseBody (s : Sides) (values : List ℤ) (m : Marked) (l : FourBuffers) : Type 0 where
  -- the status of the voxels is begin's for the kept blocks split again, in place of the box
  pub statuses : l.voxels.status ≡ start_status s m (inside s values) (split_body s l.blocks.status)
  -- so the kept voxels are those of the kept blocks
  pub split : (i : ℕ) → i < size s → is_kept l.voxels.status i ≡ is_kept l.blocks.status (block_of s i)
  -- S lies within them
  pub inside-kept : (i : ℕ) → is_in (inside s values) i ≡ true → is_kept l.voxels.status i ≡ true
  -- the worked distances are begin's, and each block has the least of its eight
  pub distances : l.voxels.dist ≡ worked s values (inside s values)
  pub least : l.blocks.dist ≡ block_distances s l.voxels.dist
  -- the coarse run came to its end: no block is pending, and no kept block passes that is neither negative nor pinned
  pub ended : any_pending (halved s) l.blocks.status ≡ false
  pub none_passes : (j : ℕ) → is_kept l.blocks.status j ≡ true → is_inside l.blocks.dist j ≡ false → (block_marks s m).pinned j ≡ false
      → passes (test_at (halved s) l.blocks.status j) ≡ false
  -- the negative blocks are kept, and the pinned ones of the box
  pub negative-kept : (j : ℕ) → is_inside l.blocks.dist j ≡ true → is_kept l.blocks.status j ≡ true
  pub pinned-kept : (j : ℕ) → j < size (halved s) → block_box (halved s) l.blocks.dist j ≡ true → (block_marks s m).pinned j ≡ true
      → is_kept l.blocks.status j ≡ true

abbrev pub CoarseBodyIs : Type 0
CoarseBodyIs = EveryCoarse (λ s T values marks l c. CoarseBody s (filled s values) (marked marks) l)

-- number 31 may as well look at the values with gaps filled: no voxel is filled that is so near to the border
abbrev pub FilledAsFit : Type 0
FilledAsFit = (s : Sides) (values : List ℤ) → Beginnable s values → unfit_coarse s (filled s values) ≡ unfit_coarse s values

-- ---- beside a plain start of the same values, whatever T, the marks and the buffers

-- of the sides, and of the states that the plain and the coarse start hand out
abbrev pub BothStarts : (Sides → State → State → Type 0) → Type 0
BothStarts P =
    (s : Sides) (T T' : ℕ) (values : List ℤ) (marks marks' : List ℕ) (dist : List ℤ) (status : List ℕ) (lent : FourBuffers) (r : Record) (c : CoarseStart)
    → (begin s T values marks dist status).answer ≡ done r → (begin_coarse s T' values marks' lent).answer ≡ done c
    → let b = begin s T values marks dist status in
    P s (state r b.lent.dist b.lent.status) (coarse_state (begin_coarse s T' values marks' lent).lent c)

-- the voxels have the same distances
abbrev pub SameDistances : Type 0
SameDistances = BothStarts (λ s plain coarse. plain.dist ≡ coarse.dist)

-- where open answers 15 after a list of calls from each, and was lent marks that pin nothing, the same voxels are kept
abbrev pub PlainAndCoarse : Type 0
PlainAndCoarse =
    BothStarts (λ s plain coarse.
    (calls calls' : List Call) (lent lent' : List ℕ) → ((j : ℕ) → (marked lent).pinned j ≡ false) → ((j : ℕ) → (marked lent').pinned j ≡ false)
    → let g = (run calls plain).end in
    let g' = (run calls' coarse).end in
    (open_next lent g).answer ≡ refused 15 → (open_next lent' g').answer ≡ refused 15 → (i : ℕ) → i < size s → is_kept g.status i ≡ is_kept g'.status i)
