-- The largest component of the voxels that floods may take, and the stretch of the work list that lists it.
use Rattle.std.specs.Prelude.{◌≡◌, ◌⊎◌, Bool, true, List, ℕ, ◌≤◌, ◌<◌, ℤ, pos, length, get_or}
use Rattle.cells.specs.Groups.{filter}
use Rattle.cells.specs.Linked.{Linked}
use Rattle.rules.specs.Grid.{range}
use Rattle.pushing.specs.Push.{labelled}
use Rattle.floods.specs.Flood.{offsets_of, near_by}

-- the offsets at which voxels touch: all 27 positions
abbrev pub touching : ℕ → ℕ → List ℕ
touching a ab = offsets_of a ab (range 0 27)

-- the work list from first up to end lists what a test finds
pub record Lists (test : ℕ → Bool) (work : List ℤ) (first end : ℕ) : Type 0 where
  pub listed : (k : ℕ) → first ≤ k → k < end → (i : ℕ) × (get_or work k (pos 0) ≡ pos i) × (test i ≡ true)
  pub whole : (i : ℕ) → test i ≡ true → (k : ℕ) × (first ≤ k) × (k < end) × (get_or work k (pos 0) ≡ pos i)

-- of the indices below n, the test finds just those that are linked to v by members
pub record Component (n : ℕ) (member : ℕ → Bool) (near : ℕ → ℕ → Bool) (v : ℕ) (test : ℕ → Bool) : Type 0 where
  pub linked : (i : ℕ) → i < n → test i ≡ true → Linked member near v i
  pub whole : (i : ℕ) → Linked member near v i → test i ≡ true

abbrev pub size_of : ℕ → (ℕ → Bool) → ℕ
size_of n test = length (filter test (range 0 n))

-- the test finds a component that none exceeds, and that exceeds every one with a smaller index
pub record Largest (n : ℕ) (member : ℕ → Bool) (near : ℕ → ℕ → Bool) (test : ℕ → Bool) : Type 0 where
  pub seed : ℕ
  pub seeded : member seed ≡ true
  pub component : Component n member near seed test
  pub smallest : (i : ℕ) → i < n → test i ≡ true → seed ≤ i
  pub largest : (v : ℕ) (other : ℕ → Bool) → member v ≡ true → Component n member near v other → size_of n other ≤ size_of n test
  pub first : (v : ℕ) (other : ℕ → Bool) → member v ≡ true → Component n member near v other → v < seed → size_of n other < size_of n test

-- labels of 0 and 1, and neighbours both ways, where the search may start
pub record Searchable (offsets : List ℕ) (back : ℕ) (l : List ℕ) (room : ℕ) : Type 0 where
  pub same : room ≡ length l
  pub small : length l ≤ 262144
  pub two : (k : ℕ) → (get_or l k 0 ≡ 0) ⊎ (get_or l k 0 ≡ 1)
  pub low : (v : ℕ) → get_or l v 0 ≡ 1 → back ≤ v
  pub high : (v j : ℕ) → get_or l v 0 ≡ 1 → near_by offsets back v j ≡ true → j < length l
  pub turn : (u v : ℕ) → get_or l u 0 ≡ 1 → get_or l v 0 ≡ 1 → near_by offsets back u v ≡ true → near_by offsets back v u ≡ true
  pub some : ℕ
  pub some_is : get_or l some 0 ≡ 1

-- a stretch of the work list that lists the largest component of the voxels that were untaken
pub record Longest (near : ℕ → ℕ → Bool) (l : List ℕ) (work : List ℤ) (first end : ℕ) : Type 0 where
  pub order : first ≤ end
  pub upto : end ≤ length work
  pub test : ℕ → Bool
  pub within : (i : ℕ) → test i ≡ true → i < length l
  pub largest : Largest (length l) (labelled 1 l) near test
  pub lists : Lists test work first end
