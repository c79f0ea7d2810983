-- The queue of pending voxels: the front has the greatest keys, the index all others.
use Rattle.std.specs.Prelude.{◌≡◌, true, false, List, ℕ, ◌≤◌, ◌<◌, ℤ, length, get_or, set, Option, Some}
use Rattle.rules.specs.declared.Sides.{Sides}
use Rattle.rules.specs.Grid.{size}
use Rattle.rules.specs.Status.{status_of, pending_byte, woken, is_pending, first_of}
use Rattle.rules.specs.Marks.{Marked}
use Rattle.rules.specs.Machine.{sooner}
use Rattle.keys.specs.Key.{Lent, key_at}
use Rattle.pending.specs.Index.{Room, Indexed}
use Rattle.front.specs.Front.{Falling, up_to}

-- how many places the front has
abbrev pub places : ℕ
places = 113

-- for any key: the keys up to top are in the index, and those above it are the front
pub record Queued (key : ℕ → ℕ) (top n : ℕ) (offsets tree front : List ℕ) (head : ℕ) : Type 0 where
  pub index : Indexed (up_to top key) n offsets tree
  pub list : Falling front head
  pub above : (p : ℕ) → head ≤ p → p < list.end → top < get_or front p 0
  pub own : (p : ℕ) → head ≤ p → p < list.end → (j : ℕ) × (get_or front p 0 ≡ key j)
  pub all : (j : ℕ) → top < key j → (p : ℕ) × (head ≤ p) × (p < list.end) × (get_or front p 0 ≡ key j)

pub record Queue (m : Marked) (dist : List ℤ) (status offsets tree front : List ℕ) (head : ℕ) : Type 0 where
  pub lent : Lent dist status
  pub room : length front ≡ places
  pub top : ℕ
  pub keys : Queued (key_at m.hurried dist status) top (length dist) offsets tree front head

-- room for it
pub record Lending (dist : List ℤ) (status offsets tree front : List ℕ) : Type 0 where
  pub index : Room dist status offsets tree
  pub list : length front ≡ places

-- ---- the front is empty

pub record Emptied (m : Marked) (dist : List ℤ) (status offsets tree front : List ℕ) (head : ℕ) : Type 0 where
  pub queue : Queue m dist status offsets tree front head
  pub empty : get_or front head 0 ≡ 0

-- only where nothing is pending
pub record Filled (m : Marked) (dist : List ℤ) (status offsets tree front : List ℕ) (head : ℕ) : Type 0 where
  pub queue : Queue m dist status offsets tree front head
  pub empty : get_or front head 0 ≡ 0 → get_or tree 1 0 ≡ 0

-- ---- a status byte is written

pub record Written (m : Marked) (dist : List ℤ) (before after offsets tree front : List ℕ) (head j s : ℕ) : Type 0 where
  pub status : after ≡ set before j s
  pub queue : Queue m dist after offsets tree front head

-- the byte is made pending
abbrev pub Entered : Marked → List ℤ → List ℕ → List ℕ → List ℕ → List ℕ → List ℕ → ℕ → ℕ → Type 0
Entered m dist before after offsets tree front head j = Written m dist before after offsets tree front head j (woken (status_of before j))

-- the first of the front leaves it
pub record Leaving (m : Marked) (dist : List ℤ) (status offsets tree front : List ℕ) (head i s : ℕ) : Type 0 where
  pub queue : Queue m dist status offsets tree front head
  pub first : get_or front head 0 ≡ key_at m.hurried dist status i
  pub pending : is_pending status i ≡ true
  pub idle : pending_byte s ≡ false

-- ---- the answer

-- document 01's choice among the pending voxels of a grid with these buffers
pub record Best (m : Marked) (dist : List ℤ) (status front : List ℕ) (head : ℕ) (c : Option ℕ) : Type 0 where
  pub rule : (s : Sides) → size s ≡ length status → c ≡ first_of s (sooner m dist) (is_pending status)
  pub inside : (j : ℕ) → c ≡ Some j → j < length status
  pub pending : (j : ℕ) → c ≡ Some j → is_pending status j ≡ true
  pub first : (j : ℕ) → c ≡ Some j → get_or front head 0 ≡ key_at m.hurried dist status j
