-- Document 01, number 15, "open: no voxel to open", with document 02's CR 7: what is kept then is determined by the sides, S and the pinned voxels of
-- the body at the start. proofs/Border.antt and proofs/Fifteen.antt prove it.
use Rattle.std.specs.Prelude.{◌≡◌, ◌↔◌, Bool, true, false, not, ◌&&◌, ◌||◌, List, ℕ, ◌<◌, ltb, length, ℤ, None}
use Rattle.cells.specs.Linked.{Linked, OnePiece}
use Rattle.rules.specs.declared.Sides.{Sides}
use Rattle.rules.specs.Grid.{size, on_border, touch, share_face}
use Rattle.rules.specs.Answer.{refused}
use Rattle.rules.specs.Begin.{is_in, inside}
use Rattle.rules.specs.Status.{is_kept, any_pending}
use Rattle.rules.specs.Marks.{marked, stray_mark}
use Rattle.rules.specs.Machine.{State, may_go, to_open, open_next}
use Rattle.rules.specs.Demand.{Promise, FromBegin, Call, AllLend, Unchanged, run}

-- ---- open to the border

-- a voxel of the grid that is not solid
abbrev pub clear : Sides → (ℕ → Bool) → ℕ → Bool
clear s solid i = ltb i (size s) && not (solid i)

-- i is not solid, and linked by faces, through voxels that are not solid, to a border voxel
abbrev pub OpenToBorder : Sides → (ℕ → Bool) → ℕ → Type 0
OpenToBorder s solid i = (b : ℕ) × (on_border s b ≡ true) × (Linked (clear s solid) (share_face s) i b)

-- S, and the voxels of the body at the start that marks pin
unfoldable pub walls : List ℕ → List ℕ → (ℕ → Bool) → ℕ → Bool
walls S marks start i = is_in S i || ((marked marks).pinned i && start i)

-- a voxel that is not pinned is one of them exactly in S
abbrev pub UnpinnedWalls : Type 0
UnpinnedWalls = (S marks : List ℕ) (start : ℕ → Bool) (i : ℕ) → (marked marks).pinned i ≡ false → walls S marks start i ≡ is_in S i

-- every call of the list, refused ones aside, pins what these marks pin
abbrev pub Pins : List ℕ → State → List Call → Type 0
Pins marks g calls = AllLend (λ lent. (j : ℕ) → (marked marks).pinned j ≡ true → (marked lent).pinned j ≡ true) g calls

-- so do calls that are lent the same marks
abbrev pub UnchangedPins : Type 0
UnchangedPins = (marks : List ℕ) (g : State) (calls : List Call) → Unchanged marks g calls → Pins marks g calls

-- after every list of calls, whatever marks they are lent, what is gone is open to the border past S: what S closes in is kept
abbrev pub OpenAfter : Promise
OpenAfter s T values marks start begun =
    (calls : List Call)
    → let g = (run calls begun).end in
    (i : ℕ) → i < size s → is_kept g.status i ≡ false → OpenToBorder s (is_in (inside s values)) i

abbrev pub GoneIsOpen : Type 0
GoneIsOpen = FromBegin OpenAfter

-- ---- no voxel to open

-- the voxels not kept are just those open to the border past S and the pinned voxels of the body at the start, so the body is these and what they
-- close in; and it is in one piece where no voxel outside S is kept that is pinned
pub record OnlyClosedIn (s : Sides) (S marks : List ℕ) (start : ℕ → Bool) (status : List ℕ) : Type 0 where
  pub gone-is-open : (i : ℕ) → i < size s → (is_kept status i ≡ false) ↔ (OpenToBorder s (walls S marks start) i)
  pub body-one-piece : ((i : ℕ) → is_kept status i ≡ true → is_in S i ≡ false → (marked marks).pinned i ≡ false) → OnePiece (is_kept status) (touch s)

-- after a list of calls that pins what open's marks pin, on a grid that is not finished: finish makes every kept distance negative, and then none is
-- to open
abbrev pub NoneToOpenAfter : Promise
NoneToOpenAfter s T values marks start begun =
    (calls : List Call) (lent : List ℕ)
    → let g = (run calls begun).end in
    Pins lent begun calls → g.rec.finished ≡ false → to_open (may_go (marked lent) g.dist) g ≡ None
    → OnlyClosedIn s (inside s values) lent start g.status

abbrev pub NoneToOpen : Type 0
NoneToOpen = FromBegin NoneToOpenAfter

-- the same where open answers 15 after the list
abbrev pub FifteenTellsAfter : Promise
FifteenTellsAfter s T values marks start begun =
    (calls : List Call) (lent : List ℕ)
    → let g = (run calls begun).end in
    Pins lent begun calls → (open_next lent g).answer ≡ refused 15 → OnlyClosedIn s (inside s values) lent start g.status

abbrev pub FifteenTells : Type 0
FifteenTells = FromBegin FifteenTellsAfter

-- open answers 15 exactly where its marks are n of at most 3, on a grid that is not finished, with nothing pending, an opening left and no voxel to open
abbrev pub FifteenWhenAfter : Promise
FifteenWhenAfter s T values marks start begun =
    (calls : List Call) (lent : List ℕ)
    → let g = (run calls begun).end in
    ((open_next lent g).answer ≡ refused 15)
    ↔ (
    (length lent ≡ size s)
    × (stray_mark lent ≡ false)
    × (g.rec.finished ≡ false)
    × (any_pending s g.status ≡ false)
    × (g.rec.openings < T)
    × (to_open (may_go (marked lent) g.dist) g ≡ None))

abbrev pub FifteenWhen : Type 0
FifteenWhen = FromBegin FifteenWhenAfter

-- no call after it takes another voxel, if it pins what open pinned; what was pinned before does not matter
abbrev pub FifteenLastAfter : Promise
FifteenLastAfter s T values marks start begun =
    (calls : List Call) (lent : List ℕ) (more : List Call)
    → let g = (run calls begun).end in
    (open_next lent g).answer ≡ refused 15 → Pins lent g more → (i : ℕ) → is_kept (run more g).end.status i ≡ is_kept g.status i

abbrev pub FifteenIsLast : Type 0
FifteenIsLast = FromBegin FifteenLastAfter

-- ---- the same body, whatever T, the values, the order of calls, the ties and the hurries

-- a list of calls after which open answers 15, and that pins what open's marks pin
pub record EndsWith15 (begun : State) : Type 0 where
  pub calls : List Call
  pub lent : List ℕ
  pub pins : Pins lent begun calls
  pub ends : (open_next lent (run calls begun).end).answer ≡ refused 15

-- the status bytes at its end
abbrev pub end_status : {begun : State} → EndsWith15 begun → List ℕ
end_status {begun} e = (run e.calls begun).end.status

-- two starts, of the same sides, whose lists end with 15: where S and the pinned voxels of the body at the start are together the same, so are the ends
abbrev pub SameBodyAfter : Sides → List ℤ → (ℕ → Bool) → State → Promise
SameBodyAfter s values start begun s' T values' marks start' begun' =
    s' ≡ s → (e : EndsWith15 begun) (f : EndsWith15 begun')
    → ((i : ℕ) → i < size s → walls (inside s values) e.lent start i ≡ walls (inside s' values') f.lent start' i)
    → (i : ℕ) → i < size s → is_kept (end_status e) i ≡ is_kept (end_status f) i

abbrev pub OneBody : Type 0
OneBody = FromBegin (λ s T values marks start begun. FromBegin (SameBodyAfter s values start begun))
