-- Document 02's CR 11: which lists judge accepts, clause by clause over their entries, what it answers, and what it does not read.
-- proofs/Accepted.antt proves it.
use Rattle.std.specs.Prelude.{◌≡◌, ◌↔◌, Bool, true, false, cond, ◌||◌, List, [], ◌∷◌, ◌++◌, ℕ, suc, ◌+◌, ◌*◌, ◌≤◌, ◌<◌, length, ℤ, pos, ◌+ℤ◌, ◌-ℤ◌}
use Rattle.cells.specs.Cells.{test, passes}
use Rattle.rules.specs.declared.Sides.{Sides}
use Rattle.rules.specs.Grid.{size, neighbourhood}
use Rattle.rules.specs.Begin.{exposed}
use Rattle.rules.specs.Checks.{AllHold}
use Rattle.rules.specs.Answer.{done}
use Rattle.rules.specs.Status.{is_kept}
use Rattle.rules.specs.Machine.{State, is_inside, working_checks, lent_to}
use Rattle.format.specs.Bytes.{tagged}
use Rattle.judging.specs.declared.Judgement.{Judgement}
use Rattle.judging.specs.Judge.{Entry, entry_length, entry_at, entries_in, less_one, judge}

-- ---- what entries do

-- the voxels kept after them
unfoldable pub kept_after : (ℕ → Bool) → List Entry → ℕ → Bool
kept_after kept [] = kept
kept_after kept (e ∷ es) = kept_after (less_one kept e.at) es

-- how many are openings
unfoldable pub openings : List Entry → ℕ
openings [] = 0
openings (e ∷ es) = cond e.opens (suc (openings es)) (openings es)

-- the sum of k - m over the openings, each at its turn
unfoldable pub change : Sides → (ℕ → Bool) → List Entry → ℤ
change s kept [] = pos 0
change s kept (e ∷ es) =
    let t = test (neighbourhood s kept e.at) in
    cond e.opens (pos t.k -ℤ pos t.m) (pos 0) +ℤ change s (less_one kept e.at) es

-- ---- which entries are accepted

module _ (s : Sides) (S : ℕ → Bool) where
  -- no kept outside voxel passes
  abbrev pub NonePasses : (ℕ → Bool) → Type 0
  NonePasses kept = (i : ℕ) → i < size s → kept i ≡ true → S i ≡ false → passes (test (neighbourhood s kept i)) ≡ false

  -- an entry at its turn, when these are kept
  pub record InTurn (kept : ℕ → Bool) (e : Entry) : Type 0 where
    pub is-kept : kept e.at ≡ true
    pub is-outside : S e.at ≡ false
    pub ordinary-passes : e.opens ≡ false → passes (test (neighbourhood s kept e.at)) ≡ true
    pub opening-exposed : e.opens ≡ true → exposed s kept e.at ≡ true
    pub opening-last : e.opens ≡ true → NonePasses kept

  -- every entry is at its turn, there are at most T openings, and none passes at the end
  pub record Accepted (T : ℕ) (kept : ℕ → Bool) (es : List Entry) : Type 0 where
    pub turns : (before : List Entry) (e : Entry) (later : List Entry) → es ≡ before ++ (e ∷ later) → InTurn (kept_after kept before) e
    pub few : openings es ≤ T
    pub at-end : NonePasses (kept_after kept es)

-- ---- the call

-- a whole record, with one of the two marks and an index below n
pub record Readable (n : ℕ) (list : List ℕ) (r : ℕ) : Type 0 where
  pub full : entry_length * r + entry_length ≤ length list
  pub marked : tagged 0x52 list (entry_length * r) || tagged 0x4F list (entry_length * r) ≡ true
  pub below : (entry_at list (entry_length * r)).at < n

-- every record that begins in the list
abbrev pub AllReadable : ℕ → List ℕ → Type 0
AllReadable n list = (r : ℕ) → entry_length * r < length list → Readable n list r

pub record Fair (list : List ℕ) (g : State) : Type 0 where
  pub working : AllHold (working_checks g)
  pub readable : AllReadable (size g.rec.sides) list
  pub accepted : Accepted g.rec.sides (is_inside g.dist) g.rec.allowed (is_kept g.status) (entries_in list)

-- removals, openings, and 1 with the sum of k - m
abbrev pub counts_of : Sides → (ℕ → Bool) → List Entry → Judgement
counts_of s kept es = record { removed = length es; opened = openings es; euler = pos 1 +ℤ change s kept es }

abbrev pub AcceptedExactlyWhen : Type 0
AcceptedExactlyWhen =
    (list : List ℕ) (g : State) (a : Judgement)
    → ((judge list g).answer ≡ done a) ↔ ((Fair list g) × (a ≡ counts_of g.rec.sides (is_kept g.status) (entries_in list)))

-- both buffers end as they began, whatever the list
abbrev pub NothingWritten : Type 0
NothingWritten = (list : List ℕ) (g : State) → (judge list g).lent ≡ lent_to g

-- "with marks, pending and the record's own counts unread once those checks are done": besides the list only the sides, T, the distances and which
-- voxels are kept decide
abbrev pub OnlyKeptIsRead : Type 0
OnlyKeptIsRead =
    (list : List ℕ) (g h : State) → AllHold (working_checks g) → AllHold (working_checks h) → g.rec.sides ≡ h.rec.sides → g.rec.allowed ≡ h.rec.allowed
    → g.dist ≡ h.dist → is_kept g.status ≡ is_kept h.status → (judge list g).answer ≡ (judge list h).answer
