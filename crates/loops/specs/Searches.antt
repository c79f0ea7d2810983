-- Searches for a byte.
use Rattle.std.specs.Prelude.{◌≡◌, List, ℕ, suc, ◌≤◌, ◌<◌, get_or}

-- v stands nowhere from low up to high
abbrev pub Absent : List ℕ → ℕ → ℕ → ℕ → Type 0
Absent l v low high = (k : ℕ) → low ≤ k → k < high → get_or l k 0 ≡ v → ⊥

-- a search from first has come to r, and v stands nowhere before
pub record Passed (l : List ℕ) (v first end r : ℕ) : Type 0 where
  pub low : first ≤ r
  pub high : r ≤ end
  pub none_before : Absent l v first r

-- i is the first index from first up to end at which v stands
pub record First (l : List ℕ) (v first end i : ℕ) : Type 0 where
  pub low : first ≤ i
  pub high : i < end
  pub none_before : Absent l v first i
  pub found : get_or l i 0 ≡ v

-- i is the last index from first up to end at which v stands
pub record Last (l : List ℕ) (v first end i : ℕ) : Type 0 where
  pub low : first ≤ i
  pub high : i < end
  pub none_after : Absent l v (suc i) end
  pub found : get_or l i 0 ≡ v
