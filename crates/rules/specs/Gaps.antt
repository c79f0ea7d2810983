-- Document 02, CR 6, "Gaps behind the face": what the filled voxels are, and what the request promises of them. proofs/Gaps.antt proves it.
use Rattle.std.specs.Prelude.{◌≡◌, ◌⊎◌, ◌↔◌, Bool, true, false, ◌&&◌, List, ℕ, ◌<◌, ltb, length, ℤ, negsuc}
use Rattle.cells.specs.Groups.{any}
use Rattle.cells.specs.Linked.{Linked}
use Rattle.cells.specs.Classes.{Classes, Counted}
use Rattle.rules.specs.declared.Sides.{Sides}
use Rattle.rules.specs.Value.{is_missing}
use Rattle.rules.specs.Grid.{size, on_border, share_face, measured_negative, value_at, distance_at}
use Rattle.rules.specs.Fill.{gaps, is_filled, filled}
use Rattle.rules.specs.Marks.{Marked}
use Rattle.rules.specs.Begin.{is_in, inside, begun_on, begun}
use Rattle.rules.specs.Status.{is_kept}
use Rattle.rules.specs.Machine.{State}
use Rattle.rules.specs.Demand.{EveryBegun, Call, run}

-- a missing voxel of the grid
abbrev pub missing_at : Sides → List ℤ → ℕ → Bool
missing_at s values i = ltb i (size s) && is_missing (value_at values i)

-- j is in the gap of i: linked to it by missing voxels, each sharing a face with the next
abbrev pub InGap : Sides → List ℤ → ℕ → ℕ → Type 0
InGap s values i j = Linked (missing_at s values) (share_face s) i j

-- the gaps are the classes of missing voxels that faces link, and as many
abbrev pub GapsAreClasses : Type 0
GapsAreClasses =
    (s : Sides) (values : List ℤ)
    → (Classes (missing_at s values) (share_face s) (gaps s values)) × (Counted (missing_at s values) (share_face s) (length (gaps s values)))

-- the gap of i has no voxel on the border, and each face neighbour of a voxel of it that is not missing, and so none of it, is measured negative
pub record Enclosed (s : Sides) (values : List ℤ) (i : ℕ) : Type 0 where
  pub missing : missing_at s values i ≡ true
  pub off-border : (j : ℕ) → InGap s values i j → on_border s j ≡ false
  pub walled : (j k : ℕ) → InGap s values i j → k < size s → share_face s j k ≡ true
      → (is_missing (value_at values k) ≡ true) ⊎ (measured_negative (value_at values k) ≡ true)

-- what the rule finds is what the request says
abbrev pub FilledIsEnclosed : Type 0
FilledIsEnclosed = (s : Sides) (values : List ℤ) (i : ℕ) → (is_filled s values i ≡ true) ↔ (Enclosed s values i)

-- begin works on -1 at a filled voxel, and on the value as it is given at any other
pub record FilledValues : Type 0 where
  pub at-filled : (s : Sides) (values : List ℤ) (i : ℕ) → is_filled s values i ≡ true → value_at (filled s values) i ≡ negsuc 0
  pub elsewhere : (s : Sides) (values : List ℤ) (i : ℕ) → i < size s → is_filled s values i ≡ false → value_at (filled s values) i ≡ value_at values i

-- one round is all: what is filled closes no other gap
abbrev pub OneRound : Type 0
OneRound = (s : Sides) (values : List ℤ) → filled s (filled s values) ≡ filled s values

-- a grid without such a gap is begun as before
abbrev pub BegunAsBefore : Type 0
BegunAsBefore =
    (s : Sides) (T : ℕ) (values : List ℤ) (m : Marked) → length values ≡ size s → ((i : ℕ) → is_filled s values i ≡ false)
    → begun s T values m ≡ begun_on s T values m

-- and so is a grid with every point measured
abbrev pub MeasuredAsBefore : Type 0
MeasuredAsBefore =
    (s : Sides) (T : ℕ) (values : List ℤ) (m : Marked) → length values ≡ size s → any is_missing values ≡ false → begun s T values m ≡ begun_on s T values m

-- a filled voxel found in S has the worked distance -1 after begin, and no list of calls loses it
pub record FilledStays (begun : State) (i : ℕ) : Type 0 where
  pub worked : distance_at begun.dist i ≡ negsuc 0
  pub kept : (calls : List Call) → is_kept (run calls begun).end.status i ≡ true

abbrev pub FilledAreKept : Type 0
FilledAreKept =
    EveryBegun (λ s T values marks begun. (i : ℕ) → is_filled s values i ≡ true → is_in (inside s (filled s values)) i ≡ true → FilledStays begun i)
