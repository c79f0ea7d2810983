-- A winner tree with p leaves, at p .. 2 p - 1, and inner nodes 1 .. p - 1.
use Rattle.std.specs.Prelude.{◌≡◌, List, ℕ, ◌+◌, ◌*◌, ◌≤◌, ◌<◌, max, length, get_or}

-- node i is the greater of its children
abbrev pub Joined : List ℕ → ℕ → Type 0
Joined tree i = get_or tree i 0 ≡ max (get_or tree (2 * i) 0) (get_or tree (2 * i + 1) 0)

pub record Nodes (p : ℕ) (tree : List ℕ) : Type 0 where
  pub room : 2 * p ≤ length tree
  pub node : (i : ℕ) → 1 ≤ i → i < p → Joined tree i

-- the tree that grows over given leaves
pub record Grown (p : ℕ) (before after : List ℕ) : Type 0 where
  pub nodes : Nodes p after
  pub leaves : (m : ℕ) → p ≤ m → get_or after m 0 ≡ get_or before m 0

-- the tree before and after leaf k became v
pub record Changed (p k v : ℕ) (before after : List ℕ) : Type 0 where
  pub same : length after ≡ length before
  pub nodes : Nodes p after
  pub here : get_or after (p + k) 0 ≡ v
  pub others : (m : ℕ) → m < p → (m ≡ k → ⊥) → get_or after (p + m) 0 ≡ get_or before (p + m) 0
