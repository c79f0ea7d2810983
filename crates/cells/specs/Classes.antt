-- What groups are: the classes of a list's members, two members being in one class exactly if a chain of members links them.
use Rattle.std.specs.Prelude.{◌≡◌, ◌⊎◌, Bool, true, false, not, ◌&&◌, List, [], ◌∷◌, ℕ, ◌<◌, eqb, length}
use Rattle.cells.specs.Groups.{any, groups}
use Rattle.cells.specs.Linked.{Linked}
use Rattle.cells.specs.Cells.{joined, positions, touched, test}

-- x stands in the list
abbrev pub among : List ℕ → ℕ → Bool
among xs x = any (eqb x) xs

-- x and y stand in one of the lists
abbrev pub together : List (List ℕ) → ℕ → ℕ → Bool
together gs x y = any (λ g. among g x && among g y) gs

-- the lists gs are the classes of the members
pub record Classes (member : ℕ → Bool) (joined : ℕ → ℕ → Bool) (gs : List (List ℕ)) : Type 0 where
  pub members : (x : ℕ) → any (λ g. among g x) gs ≡ member x
  pub filled : any (λ g. eqb (length g) 0) gs ≡ false
  pub linked : (x y : ℕ) → together gs x y ≡ true → Linked member joined x y
  pub whole : (x y : ℕ) → Linked member joined x y → together gs x y ≡ true

-- n is the number of classes: there are n members, no two of them linked, and each member is linked to one of them
pub record Counted (member : ℕ → Bool) (joined : ℕ → ℕ → Bool) (n : ℕ) : Type 0 where
  pub pick : ℕ → ℕ
  pub picked : (i : ℕ) → i < n → member (pick i) ≡ true
  pub apart : (i j : ℕ) → i < n → j < n → Linked member joined (pick i) (pick j) → i ≡ j
  pub reach : (x : ℕ) → member x ≡ true → (i : ℕ) × (i < n) × (Linked member joined x (pick i))

-- ---- what is proved (proofs/GroupsAre.antt and GroupsNumber.antt)

abbrev pub Symmetric : (ℕ → ℕ → Bool) → Type 0
Symmetric joined = (x y : ℕ) → joined x y ≡ true → joined y x ≡ true

abbrev pub Reflexive : (ℕ → ℕ → Bool) → Type 0
Reflexive joined = (x : ℕ) → joined x x ≡ true

-- no element stands in the list twice
abbrev pub EachOnce : List ℕ → Type 0
EachOnce [] = Unit {0}
EachOnce (x ∷ xs) = (among xs x ≡ false) × (EachOnce xs)

-- the groups of a list are the classes of its members, for whatever is joined both ways: also where nothing is joined to itself, as by faces
abbrev pub GroupsAreClasses : Type 0
GroupsAreClasses = (joined : ℕ → ℕ → Bool) → Symmetric joined → (xs : List ℕ) → Classes (among xs) joined (groups joined xs)

-- and their number is the number of classes, where an element is joined to itself or stands in the list once
abbrev pub GroupsAreCounted : Type 0
GroupsAreCounted =
    (joined : ℕ → ℕ → Bool) → Symmetric joined → (xs : List ℕ) → (Reflexive joined) ⊎ (EachOnce xs)
    → Counted (among xs) joined (length (groups joined xs))

-- and there is one such number
abbrev pub CountedOnce : Type 0
CountedOnce =
    (member : ℕ → Bool) (joined : ℕ → ℕ → Bool) → Symmetric joined → (m n : ℕ) → Counted member joined m → Counted member joined n → m ≡ n

-- the cells that pass a test
abbrev pub cells : (ℕ → Bool) → ℕ → Bool
cells p c = among positions c && p c

-- k is the number of groups of touched cells, and m that of bare ones
abbrev pub TestCounts : Type 0
TestCounts =
    (kept : ℕ → Bool)
    → (Counted (cells (touched kept)) joined (test kept).k) × (Counted (cells (λ c. not (touched kept c))) joined (test kept).m)
