-- The index of pending voxels: the offsets of stretches, and a winner tree over groups of stretches, for any key; and what its operations do.
use Rattle.std.specs.Prelude.{◌≡◌, Bool, ◌⊎◌, List, ℕ, ◌+◌, ◌*◌, ◌/◌, ◌%◌, ◌≤◌, ◌<◌, max, ℤ, length, get_or, set}
use Rattle.rules.specs.Marks.{Marked}
use Rattle.keys.specs.Key.{Lent, key_at, width, stretches}
use Rattle.offsets.specs.Offsets.{offset_of, Offsets, Held, held_key, group, groups, group_key, held_group}
use Rattle.winners.specs.Tree.{Nodes, Changed}

-- ---- the leaves of the tree

-- room for h leaves
pub record Leafing (dist : List ℤ) (offsets tree : List ℕ) (h : ℕ) : Type 0 where
  pub held : Held dist offsets
  pub count : h ≡ groups (stretches (length dist))
  pub room : 2 * h ≤ length tree

-- ---- the index of n voxels, for any key

pub record Indexed (key : ℕ → ℕ) (n : ℕ) (offsets tree : List ℕ) : Type 0 where
  pub offset : Offsets key (stretches n) offsets
  pub nodes : Nodes (groups (stretches n)) tree
  pub leaf : (q : ℕ) → q < groups (stretches n) → get_or tree (groups (stretches n) + q) 0 ≡ group_key key q

pub record Index (m : Marked) (dist : List ℤ) (status offsets tree : List ℕ) : Type 0 where
  pub lent : Lent dist status
  pub index : Indexed (key_at m.hurried dist status) (length dist) offsets tree

-- room for it
pub record Room (dist : List ℤ) (status offsets tree : List ℕ) : Type 0 where
  pub lent : Lent dist status
  pub stretched : stretches (length status) ≤ length offsets
  pub grouped : 2 * groups (stretches (length status)) ≤ length tree

-- ---- voxel j gets the key w

pub record Raising (dist : List ℤ) (offsets tree : List ℕ) (j : ℕ) : Type 0 where
  pub held : Held dist offsets
  pub nodes : Nodes (groups (stretches (length dist))) tree
  pub inside : j < length dist

-- nothing changes where the key is not above its stretch's; else the offset is the voxel's own, and its key is lifted
pub record Kept (hurried : ℕ → Bool) (dist : List ℤ) (offsets offsets1 tree tree1 : List ℕ) (j w : ℕ) : Type 0 where
  pub below : w ≤ held_key hurried dist offsets (j / width)
  pub best : offsets1 ≡ offsets
  pub keys : tree1 ≡ tree

pub record Lifted (hurried : ℕ → Bool) (dist : List ℤ) (offsets offsets1 tree tree1 : List ℕ) (j w : ℕ) : Type 0 where
  pub above : held_key hurried dist offsets (j / width) < w
  pub best : offsets1 ≡ set offsets (j / width) (j % width)
  pub keys :
      let h = groups (stretches (length dist)) in
      Changed h (j / width / group) (max (get_or tree (h + j / width / group) 0) w) tree tree1

abbrev pub Raised : (ℕ → Bool) → List ℤ → List ℕ → List ℕ → List ℕ → List ℕ → ℕ → ℕ → Type 0
Raised hurried dist offsets offsets1 tree tree1 j w =
    Kept hurried dist offsets offsets1 tree tree1 j w ⊎ Lifted hurried dist offsets offsets1 tree tree1 j w

-- ---- stretch k is made anew, where w is its greatest key

pub record Refreshing (dist : List ℤ) (offsets tree : List ℕ) (k w : ℕ) : Type 0 where
  pub held : Held dist (set offsets k (offset_of w))
  pub nodes : Nodes (groups (stretches (length dist))) tree
  pub inside : k < stretches (length dist)

pub record Refreshed (hurried : ℕ → Bool) (dist : List ℤ) (offsets offsets1 tree tree1 : List ℕ) (k w : ℕ) : Type 0 where
  pub best : offsets1 ≡ set offsets k (offset_of w)
  pub keys : Changed (groups (stretches (length dist))) (k / group) (held_group hurried dist (set offsets k (offset_of w)) (k / group)) tree tree1
