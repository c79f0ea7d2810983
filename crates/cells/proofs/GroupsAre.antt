-- The groups of a list of numbers are the classes of its members, and as many where no element is in two of them; k and m count the groups of
-- touched and of bare cells.
use mathlib.Core.Path.{◌≡◌, refl, sym, ap₂, ◌∙◌, subst}
use mathlib.Core.Logic.{◌⊎◌, inl, inr}
use mathlib.Core.Bool.{Bool, true, false, not, ◌&&◌}
use mathlib.Core.List.{List, [], ◌∷◌}
use Prim.Native.Nat.{ℕ, zero, suc, ◌/◌, ◌%◌, ◌<◌}
use native.Mathlib.Omega.{arith}
use native.Mathlib.Decide.{dec_lt}
use lib.Dec.{eqb}
use lib.ListN.{length, get_or}
use borrow.Author.Tests.{eqb-true, eq-eqb, ne_eqb}
use Rattle.cells.specs.Groups.{any, filter, groups}
use Rattle.cells.specs.Linked.{Linked, OnePiece}
use Rattle.cells.specs.Cells.{contains, spans, joined, positions, touched, group_count, test_of, test}
use Rattle.cells.specs.Classes.{among, together, Classes, Counted, Symmetric, Reflexive, EachOnce, GroupsAreClasses, GroupsAreCounted}
use Rattle.cells.specs.Classes.{cells, TestCounts}
use Rattle.prelude.proofs.Bools.{and-true, true-and, or-true, true-or, both_ways, not-both}
use Rattle.prelude.proofs.Lists.{Mem, here, there, any-true, true-any, false-any, filter-mem, mem-filter}
use Rattle.cells.proofs.Chains.{first_member}
use Rattle.cells.proofs.Groups.{At, at_lt, group-filled, group_of, group-member, group-linked, linked-group, group-same, group-one}
use Rattle.cells.proofs.GroupsSize.{Distinct, distinct-same, groups-distinct}

-- ---- members of a list of numbers, as a test

pub among-mem : (xs : List ℕ) (x : ℕ) → among xs x ≡ true → Mem x xs
among-mem xs x e = let r = any-true (eqb x) xs e in subst (λ (y : ℕ). Mem y xs) (sym (eqb-true x r.0 r.2)) r.1

pub mem-among : (xs : List ℕ) (x : ℕ) → Mem x xs → among xs x ≡ true
mem-among xs x m = true-any (eqb x) xs x m (eq-eqb x x refl)

pub among-filter : (p : ℕ → Bool) (xs : List ℕ) (x : ℕ) → among (filter p xs) x ≡ among xs x && p x
among-filter p xs x =
    both_ways (among (filter p xs) x) (among xs x && p x)
    (λ e. let r = filter-mem p xs x (among-mem (filter p xs) x e) in true-and (among xs x) (p x) (mem-among xs x r.0) r.1)
    (λ e. let r = and-true (among xs x) (p x) e in mem-among (filter p xs) x (mem-filter p xs x (among-mem xs x r.0) r.1))

-- ---- the group at a place is one of the groups, and one of the groups has a place

pub get_d-mem : {A : Type 0} (d : A) (l : List A) (i : ℕ) → i < length l → Mem (get_or l i d) l
get_d-mem d [] i h = absurd (omega arith)
get_d-mem d (x ∷ l) zero h = here
get_d-mem d (x ∷ l) (suc i) h = there (get_d-mem d l i (omega arith))

pub mem-get_d : {A : Type 0} (d x : A) (l : List A) → Mem x l → (i : ℕ) × (i < length l) × (get_or l i d ≡ x)
mem-get_d {A = A} d x [] x'' = elim x'' [ ]
mem-get_d d x (y ∷ l) here = (zero, omega arith, refl)
mem-get_d d x (y ∷ l) (there m) = let r = mem-get_d d x l m in (suc r.0, (let h = r.1 in omega arith), r.2)

-- ---- the groups of members

module _ (joined : ℕ → ℕ → Bool) (turn : Symmetric joined) (member : ℕ → Bool) (xs : List ℕ)
    (are : (x : ℕ) → Mem x xs → member x ≡ true) (all : (x : ℕ) → member x ≡ true → Mem x xs) where
  pub groups-classes : Classes member joined (groups joined xs)
  groups-classes = record { members = members; filled = filled; linked = linked; whole = whole }
    where
      at-any : (f : List ℕ → Bool) (i x : ℕ) → At (groups joined xs) i x → f (get_or (groups joined xs) i []) ≡ true → any f (groups joined xs) ≡ true
      at-any f i x a e = true-any f (groups joined xs) (get_or (groups joined xs) i []) (get_d-mem [] (groups joined xs) i (at_lt (groups joined xs) i x a)) e

      members : (x : ℕ) → any (λ g. among g x) (groups joined xs) ≡ member x
      members x =
          both_ways (any (λ g. among g x) (groups joined xs)) (member x)
          (λ e.
          let r = any-true (λ g. among g x) (groups joined xs) e in
          let q = mem-get_d [] r.0 (groups joined xs) r.1 in
          group-member joined turn member xs are all q.0 x (subst (λ (g : List ℕ). Mem x g) (sym q.2) (among-mem r.0 x r.2)))
          (λ m.
          let r = group_of joined turn member xs are all x m in
          at-any (λ g. among g x) r.0 x r.1 (mem-among (get_or (groups joined xs) r.0 []) x r.1))

      filled : any (λ g. eqb (length g) 0) (groups joined xs) ≡ false
      filled =
          false-any (λ g. eqb (length g) 0) (groups joined xs)
          (λ g m. ne_eqb (length g) 0 (λ e.
          let q = mem-get_d [] g (groups joined xs) m in
          let p = group-filled joined turn member xs are all q.0 q.1 in
          empty g p.0 (subst (λ (h : List ℕ). Mem p.0 h) q.2 p.1) e))
        where
          empty : (g : List ℕ) (x : ℕ) → Mem x g → length g ≡ 0 → ⊥
          empty g x here e = omega arith
          empty g x (there m) e = omega arith

      linked : (x y : ℕ) → together (groups joined xs) x y ≡ true → Linked member joined x y
      linked x y e =
          let r = any-true (λ g. among g x && among g y) (groups joined xs) e in
          let q = mem-get_d [] r.0 (groups joined xs) r.1 in
          let b = and-true (among r.0 x) (among r.0 y) r.2 in
          group-linked joined turn member xs are all q.0 x y
          (subst (λ (g : List ℕ). Mem x g) (sym q.2) (among-mem r.0 x b.0))
          (subst (λ (g : List ℕ). Mem y g) (sym q.2) (among-mem r.0 y b.1))

      whole : (x y : ℕ) → Linked member joined x y → together (groups joined xs) x y ≡ true
      whole x y l =
          let r = group_of joined turn member xs are all x (first_member l) in
          let g = get_or (groups joined xs) r.0 [] in
          at-any (λ g. among g x && among g y) r.0 x r.1
          (true-and (among g x) (among g y) (mem-among g x r.1) (mem-among g y (linked-group joined turn member xs are all r.0 l r.1)))

  -- an element is in one group only
  abbrev pub OneGroup : Type 0
  OneGroup = (i j x : ℕ) → At (groups joined xs) i x → At (groups joined xs) j x → i ≡ j

  pub groups-counted : OneGroup → Counted member joined (length (groups joined xs))
  groups-counted same =
      record {
        pick = λ i. pick i (dec_lt i n);
        picked = λ i h. group-member joined turn member xs are all i (pick i (dec_lt i n)) (at i h (dec_lt i n));
        apart = λ i j h k l.
            same i j (pick j (dec_lt j n)) (linked-group joined turn member xs are all i l (at i h (dec_lt i n))) (at j k (dec_lt j n));
        reach = λ x m.
            let r = group_of joined turn member xs are all x m in
            let h = at_lt (groups joined xs) r.0 x r.1 in
            (r.0, h, group-linked joined turn member xs are all r.0 x (pick r.0 (dec_lt r.0 n)) r.1 (at r.0 h (dec_lt r.0 n)));
      }
    where
      n : ℕ
      n = length (groups joined xs)

      pick : (i : ℕ) → Dec (i < n) → ℕ
      pick i (yes h) = (group-filled joined turn member xs are all i h).0
      pick i (no h) = 0

      at : (i : ℕ) → i < n → (d : Dec (i < n)) → At (groups joined xs) i (pick i d)
      at i h (yes k) = (group-filled joined turn member xs are all i k).1
      at i h (no k) = absurd (k h)

pub groups-are-classes : GroupsAreClasses
groups-are-classes joined turn xs = groups-classes joined turn (among xs) xs (mem-among xs) (among-mem xs)

each-once : (xs : List ℕ) → EachOnce xs → Distinct xs
each-once [] o = tt
each-once (x ∷ xs) o = (λ m. not-both (among xs x) (mem-among xs x m) o.0, each-once xs o.1)

pub groups-are-counted : GroupsAreCounted
groups-are-counted joined turn xs h = groups-counted joined turn (among xs) xs (mem-among xs) (among-mem xs) (one h)
  where
    one : (Reflexive joined) ⊎ (EachOnce xs) → OneGroup joined turn (among xs) xs (mem-among xs) (among-mem xs)
    one (inl self) = group-same joined turn self (among xs) xs (mem-among xs) (among-mem xs)
    one (inr once) = distinct-same (groups joined xs) (groups-distinct joined xs (each-once xs once))

-- ---- cells

pub joined-turn : Symmetric joined
unfolding joined
joined-turn c d e = elim (or-true (contains c d) (contains d c) e) [
  | inl h ↦ true-or (contains d c) (contains c d) (inr h)
  | inr h ↦ true-or (contains d c) (contains c d) (inl h)
]

pub contains-self : (c : ℕ) → contains c c ≡ true
unfolding contains
contains-self c = ap₂ ◌&&◌ (self (c % 3)) (ap₂ ◌&&◌ (self (c / 3 % 3)) (self (c / 9)))
  where
    self : (a : ℕ) → spans a a ≡ true
    self a = true-or (eqb a 1) (eqb a a) (inr (eq-eqb a a refl))

pub joined-self : Reflexive joined
unfolding joined
joined-self c = true-or (contains c c) (contains c c) (inl (contains-self c))

module _ (p : ℕ → Bool) where
  are : (c : ℕ) → Mem c (filter p positions) → cells p c ≡ true
  are c m = sym (among-filter p positions c) ∙ mem-among (filter p positions) c m

  all : (c : ℕ) → cells p c ≡ true → Mem c (filter p positions)
  all c e = among-mem (filter p positions) c (among-filter p positions c ∙ e)

  pub cells-counted : Counted (cells p) joined (group_count (filter p positions))
  unfolding group_count
  cells-counted =
      groups-counted joined joined-turn (cells p) (filter p positions) are all
      (group-same joined joined-turn joined-self (cells p) (filter p positions) are all)

  -- one group: any two of the cells are linked
  pub cells-one-piece : group_count (filter p positions) ≡ 1 → OnePiece (cells p) joined
  unfolding group_count
  cells-one-piece e = group-one joined joined-turn (cells p) (filter p positions) are all e

pub test-counts : TestCounts
unfolding test test_of
test-counts kept = (cells-counted (touched kept), cells-counted (λ c. not (touched kept c)))
