-- What the search for S leaves.
use Rattle.std.specs.Prelude.{◌≡◌, cond, List, ℕ, ◌≤◌, ◌<◌, ℤ, pos, length, get_or}
use Rattle.rules.specs.declared.Sides.{Sides}
use Rattle.rules.specs.Grid.{size}
use Rattle.rules.specs.Begin.{is_in}

-- a stretch of the work list whose entries are indices of the labels
pub record Relabelled (work : List ℤ) (first end n : ℕ) : Type 0 where
  pub order : first ≤ end
  pub upto : end ≤ length work
  pub entries : (k : ℕ) → first ≤ k → k < end → (i : ℕ) × (get_or work k (pos 0) ≡ pos i) × (i < n)

-- the voxels of S have the label 0, all others have `far`
pub record Found (s : Sides) (S : List ℕ) (far : ℕ) (l : List ℕ) : Type 0 where
  pub len : length l ≡ size s
  pub is : (k : ℕ) → k < size s → get_or l k 0 ≡ cond (is_in S k) 0 far

-- the voxels that a stretch of the work list names have the label 0, and the others keep theirs
pub record Relabels (work : List ℤ) (first end : ℕ) (l l' : List ℕ) : Type 0 where
  pub len : length l' ≡ length l
  pub named : (k i : ℕ) → first ≤ k → k < end → get_or work k (pos 0) ≡ pos i → get_or l' i 0 ≡ 0
  pub others : (i : ℕ) → ((k : ℕ) → first ≤ k → k < end → get_or work k (pos 0) ≡ pos i → ⊥) → get_or l' i 0 ≡ get_or l i 0
