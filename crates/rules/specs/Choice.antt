-- Document 01, "The carving machine": what it is to come first, for any order; the greatest worked distance is one, and so is the hurried voxels
-- before all others (document 02, CR 7).
use Rattle.std.specs.Prelude.{◌≡◌, ◌↔◌, Bool, true, false, List, ℕ, ◌<◌, ℤ, None, Some}
use Rattle.rules.specs.declared.Sides.{Sides}
use Rattle.rules.specs.Grid.{size}
use Rattle.rules.specs.Status.{is_pending, first_of}
use Rattle.rules.specs.Marks.{Marked}
use Rattle.rules.specs.Machine.{farther, sooner}

-- an order in which some may be equal: none is ahead of itself, of two at most one is ahead, and who is behind stays behind
pub record Order (ahead : ℕ → ℕ → Bool) : Type 0 where
  pub self : (i : ℕ) → ahead i i ≡ false
  pub turn : (i j : ℕ) → ahead i j ≡ true → ahead j i ≡ false
  pub behind : (i j k : ℕ) → ahead i j ≡ false → ahead j k ≡ false → ahead i k ≡ false

-- i comes first among the voxels that pass the test: none is ahead of it, and it is ahead of those with a smaller index
pub record Foremost (s : Sides) (ahead : ℕ → ℕ → Bool) (p : ℕ → Bool) (i : ℕ) : Type 0 where
  pub below : i < size s
  pub chosen : p i ≡ true
  pub farthest : (j : ℕ) → j < size s → p j ≡ true → ahead j i ≡ false
  pub earliest : (j : ℕ) → j < i → p j ≡ true → ahead i j ≡ true

-- ---- what is proved (proofs/Foremost.antt)

abbrev pub FartherIsOrder : Type 0
FartherIsOrder = (dist : List ℤ) → Order (farther dist)

abbrev pub SoonerIsOrder : Type 0
SoonerIsOrder = (m : Marked) (dist : List ℤ) → Order (sooner m dist)

abbrev pub FirstIsForemost : Type 0
FirstIsForemost = (s : Sides) (ahead : ℕ → ℕ → Bool) → Order ahead → (p : ℕ → Bool) (i : ℕ) → (first_of s ahead p ≡ Some i) ↔ (Foremost s ahead p i)

abbrev pub NoneIsFirst : Type 0
NoneIsFirst = (s : Sides) (ahead : ℕ → ℕ → Bool) (p : ℕ → Bool) → (first_of s ahead p ≡ None) ↔ ((i : ℕ) → i < size s → p i ≡ false)

-- while a hurried voxel is pending, carve examines none but hurried ones
abbrev pub HurriedFirst : Type 0
HurriedFirst =
    (s : Sides) (m : Marked) (dist : List ℤ) (status : List ℕ) (i : ℕ) → first_of s (sooner m dist) (is_pending status) ≡ Some i
    → (j : ℕ) → j < size s → is_pending status j ≡ true → m.hurried j ≡ true → m.hurried i ≡ true
