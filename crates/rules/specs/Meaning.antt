-- Document 01, "Grid and worked distances": that an index tells its voxel, and what begin's S, its M, its distances and its box are.
-- The statements are proved in proofs/Distance.antt (the index, steps 2 and 3), Inside.antt (step 1) and Boxes.antt (step 4).
use Rattle.std.specs.Prelude.{◌≡◌, ◌⊎◌, ◌↔◌, Bool, true, false, ◌&&◌, List, ℕ, ◌≤◌, ◌<◌, ltb, length, ℤ}
use Rattle.cells.specs.Groups.{filter}
use Rattle.cells.specs.Linked.{Linked}
use Rattle.rules.specs.declared.Sides.{Sides}
use Rattle.rules.specs.Grid.{size, Voxel, index, voxel, voxels, on_border, touch, taxicab, measured_negative, measured_non_negative, amount, value_at}
use Rattle.rules.specs.Begin.{is_in, inside, facing, greatest_facing, distance, in_box}

-- ---- index and coordinates give each other back

-- a voxel of the grid
pub record InGrid (s : Sides) (v : Voxel) : Type 0 where
  pub x-in : v.x < s.a
  pub y-in : v.y < s.b
  pub z-in : v.z < s.c

abbrev pub VoxelOfIndex : Type 0
VoxelOfIndex = (s : Sides) (i : ℕ) → i < size s → (InGrid s (voxel s i)) × (index s (voxel s i) ≡ i)

abbrev pub IndexOfVoxel : Type 0
IndexOfVoxel = (s : Sides) (v : Voxel) → InGrid s v → (index s v < size s) × (voxel s (index s v) ≡ v)

-- ---- step 1: S

-- a measured negative voxel of the grid
abbrev pub negative : Sides → List ℤ → ℕ → Bool
negative s values i = ltb i (size s) && measured_negative (value_at values i)

-- of the voxels of the grid, the test finds just those that are linked to v by measured negative voxels that touch
pub record GroupOf (s : Sides) (values : List ℤ) (v : ℕ) (test : ℕ → Bool) : Type 0 where
  pub linked : (i : ℕ) → i < size s → test i ≡ true → Linked (negative s values) (touch s) v i
  pub whole : (i : ℕ) → Linked (negative s values) (touch s) v i → test i ≡ true

abbrev pub EveryGroupIsFound : Type 0
EveryGroupIsFound = (s : Sides) (values : List ℤ) (v : ℕ) → negative s values v ≡ true → (test : ℕ → Bool) × (GroupOf s values v test)

-- how many voxels the test finds
abbrev pub found : Sides → (ℕ → Bool) → ℕ
found s test = length (filter test (voxels s))

-- the test finds S: a group that no group exceeds, and that exceeds every group with a smaller index
pub record IsInside (s : Sides) (values : List ℤ) (test : ℕ → Bool) : Type 0 where
  pub seed : ℕ
  pub seeded : negative s values seed ≡ true
  pub group : GroupOf s values seed test
  pub smallest : (i : ℕ) → i < size s → test i ≡ true → seed ≤ i
  pub largest : (v : ℕ) (other : ℕ → Bool) → negative s values v ≡ true → GroupOf s values v other → found s other ≤ found s test
  pub first : (v : ℕ) (other : ℕ → Bool) → negative s values v ≡ true → GroupOf s values v other → v < seed → found s other < found s test

-- where a voxel is measured negative, S is found by one test and no other
abbrev pub InsideIsFound : Type 0
InsideIsFound = (s : Sides) (values : List ℤ) (v : ℕ) → negative s values v ≡ true → IsInside s values (is_in (inside s values))

abbrev pub FoundIsInside : Type 0
FoundIsInside = (s : Sides) (values : List ℤ) (test : ℕ → Bool) → IsInside s values test → (i : ℕ) → i < size s → is_in (inside s values) i ≡ test i

-- ---- step 2: M

-- M is the greatest of 1 and the measured values of 0 or more at voxels that share a face with one of S
pub record GreatestBeside (s : Sides) (values : List ℤ) (S : List ℕ) (M : ℕ) : Type 0 where
  pub one : 1 ≤ M
  pub none-greater : (i : ℕ) → i < size s → measured_non_negative (value_at values i) ≡ true → facing s S i ≡ true → amount (value_at values i) ≤ M
  pub reached : (M ≡ 1) ⊎ ((i : ℕ) × (i < size s) × (measured_non_negative (value_at values i) ≡ true) × (facing s S i ≡ true) × (amount (value_at values i) ≡ M))

abbrev pub GreatestIsBeside : Type 0
GreatestIsBeside = (s : Sides) (values : List ℤ) (S : List ℕ) (M : ℕ) → (greatest_facing s values S ≡ M) ↔ (GreatestBeside s values S M)

-- ---- step 3: d

-- some voxels of the grid, and at least one
pub record SomeVoxels (s : Sides) (S : List ℕ) : Type 0 where
  pub filled : (i : ℕ) × (is_in S i ≡ true)
  pub within : (i : ℕ) → is_in S i ≡ true → i < size s

-- d is the number of steps to the nearest voxel of S
pub record Nearest (s : Sides) (S : List ℕ) (i d : ℕ) : Type 0 where
  pub nearest : ℕ
  pub listed : is_in S nearest ≡ true
  pub away : taxicab s i nearest ≡ d
  pub none-nearer : (j : ℕ) → is_in S j ≡ true → d ≤ taxicab s i j

abbrev pub DistanceIsNearest : Type 0
DistanceIsNearest = (s : Sides) (S : List ℕ) → SomeVoxels s S → (i : ℕ) → i < size s → (d : ℕ) → (distance s S i ≡ d) ↔ (Nearest s S i d)

-- a voxel is in S at distance 0, and shares a face with one of S at distance 1
abbrev pub DistanceTells : Type 0
DistanceTells =
    (s : Sides) (S : List ℕ) → SomeVoxels s S → (i : ℕ) → i < size s
    → ((is_in S i ≡ true) ↔ (distance s S i ≡ 0)) × (is_in S i ≡ false → (facing s S i ≡ true) ↔ (distance s S i ≡ 1))

-- ---- step 4: the box

-- along one axis i lies between two voxels of S
pub record Between (S : List ℕ) (coordinate : ℕ → ℕ) (i : ℕ) : Type 0 where
  pub low : ℕ
  pub high : ℕ
  pub low-listed : is_in S low ≡ true
  pub high-listed : is_in S high ≡ true
  pub above_low : coordinate low ≤ coordinate i
  pub below-high : coordinate i ≤ coordinate high

pub record Boxed (s : Sides) (S : List ℕ) (i : ℕ) : Type 0 where
  pub along-x : Between S (λ j. (voxel s j).x) i
  pub along-y : Between S (λ j. (voxel s j).y) i
  pub along-z : Between S (λ j. (voxel s j).z) i

abbrev pub BoxIsSmallest : Type 0
BoxIsSmallest = (s : Sides) (S : List ℕ) (i : ℕ) → i < size s → (in_box s S i ≡ true) ↔ (Boxed s S i)

-- where no border voxel is measured negative, as begin's third check sees to, the box is off the border
abbrev pub BoxIsOffBorder : Type 0
BoxIsOffBorder =
    (s : Sides) (values : List ℤ) → ((i : ℕ) → i < size s → on_border s i ≡ true → measured_negative (value_at values i) ≡ false)
    → (i : ℕ) → i < size s → in_box s (inside s values) i ≡ true → on_border s i ≡ false
