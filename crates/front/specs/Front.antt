-- The front: a short falling list of keys, ended by a 0.
use Rattle.std.specs.Prelude.{◌≡◌, Bool, cond, List, ℕ, ◌+◌, ◌/◌, ◌≤◌, ◌<◌, ltb, ℤ, length, get_or}
use Rattle.keys.specs.Key.{Lent, key_at, width, stretches, stretch_key}

-- from head on it falls, the 0 at its end included
pub record Falling (front : List ℕ) (head : ℕ) : Type 0 where
  pub end : ℕ
  pub order : head ≤ end
  pub room : end < length front
  pub ended : get_or front end 0 ≡ 0
  pub falls : (p q : ℕ) → head ≤ p → p < q → q ≤ end → get_or front q 0 < get_or front p 0

-- ---- a key is put in its place

-- those before the place are greater, and moved down by one
pub record Inserted (before after : List ℕ) (head w : ℕ) : Type 0 where
  pub place : ℕ
  pub low : head ≤ place
  pub same : length after ≡ length before
  pub moved : (q : ℕ) → head ≤ q + 1 → q + 1 < place → get_or after q 0 ≡ get_or before (q + 1) 0
  pub here : (q : ℕ) → q + 1 ≡ place → get_or after q 0 ≡ w
  pub rest : (q : ℕ) → place ≤ q → get_or after q 0 ≡ get_or before q 0
  pub greater : (q : ℕ) → head ≤ q → q < place → w < get_or before q 0
  pub least : get_or before place 0 ≤ w

-- ---- the keys of a stretch above a floor, and the greatest of the others

-- how many places are free before the first key
abbrev pub lead : ℕ
lead = 48

-- the keys up to a bound, and 0 for those above it
unfoldable pub up_to : ℕ → (ℕ → ℕ) → ℕ → ℕ
up_to top key j = cond (ltb top (key j)) 0 (key j)

-- above the floor they fall with the index
pub record Parting (hurried : ℕ → Bool) (dist : List ℤ) (status front : List ℕ) (k floor : ℕ) : Type 0 where
  pub lent : Lent dist status
  pub inside : k < stretches (length dist)
  pub room : lead + width < length front
  pub falls :
      (i j : ℕ) → i < j → i / width ≡ k → j / width ≡ k → floor < key_at hurried dist status i → floor < key_at hurried dist status j
      → key_at hurried dist status j < key_at hurried dist status i

pub record Parted (key : ℕ → ℕ) (front : List ℕ) (k floor best : ℕ) : Type 0 where
  pub list : Falling front lead
  pub own : (p : ℕ) → lead ≤ p → p < list.end → (j : ℕ) × (floor < key j) × (get_or front p 0 ≡ key j)
  pub all : (j : ℕ) → j / width ≡ k → floor < key j → (p : ℕ) × (lead ≤ p) × (p < list.end) × (get_or front p 0 ≡ key j)
  pub greatest : best ≡ stretch_key (up_to floor key) k
