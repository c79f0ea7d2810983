-- What `groups` makes of a list: its groups have the list's elements, each group is linked, and elements of two groups are never joined.
--
use mathlib.Core.Path.{◌≡◌, refl, ap, sym, subst}
use mathlib.Core.Logic.{◌⊎◌, inl, inr}
use mathlib.Core.Bool.{Bool, true, false}
use mathlib.Core.List.{List, [], ◌∷◌}
use Prim.Native.Nat.{ℕ, zero, suc, ◌<◌}
use native.Mathlib.Omega.{arith}
use lib.ListN.{length, get_or}
use Rattle.cells.specs.Groups.{any, append_if, reached, cons_unless, others, enter, gather, groups}
use Rattle.cells.specs.Linked.{Linked, stay, OnePiece}
use Rattle.prelude.proofs.Bools.{not-both}
use Rattle.prelude.proofs.Lists.{Mem, here, there, mem-left, mem-right, mem-split, any-true, any_false}
use Rattle.cells.proofs.Chains.{append, reverse, before, last-member, follow}

-- x is in the group at place i
abbrev pub At : {A : Type 0} → List (List A) → ℕ → A → Type 0
At gs i x = Mem x (get_or gs i [])

module _ {A : Type 0} where
  filled : List A → Type 0
  filled [] = ⊥
  filled (x ∷ xs) = Unit {0}

  mem-filled : {x : A} {xs : List A} → Mem x xs → filled xs
  unfolding filled
  mem-filled here = tt
  mem-filled (there m) = tt

  pub mem-none : {x : A} → Mem x [] → ⊥
  unfolding filled
  mem-none m = mem-filled m

  pub at_lt : (gs : List (List A)) (i : ℕ) (x : A) → At gs i x → i < length gs
  at_lt [] i x a = elim a [ ]
  at_lt (g ∷ gs) zero x a = omega arith
  at_lt (g ∷ gs) (suc i) x a = omega (arith, at_lt gs i x a)

-- ---- what is in the groups after one more element

module _ {A : Type 0} (joined : A → A → Bool) where
  others-at : (x : A) (gs : List (List A)) (i : ℕ) (y : A) → At (others joined x gs) i y → (j : ℕ) × (At gs j y)
  unfolding others
  others-at x [] i y m = elim m [ ]
  others-at x (g ∷ gs) i y m = go (any (joined x) g) i m (λ i m. others-at x gs i y m)
    where
      go : (t : Bool) (i : ℕ) → At (cons_unless joined t g (others joined x gs)) i y
          → ((i : ℕ) → At (others joined x gs) i y → (j : ℕ) × (At gs j y)) → (j : ℕ) × (At (g ∷ gs) j y)
      go true i m ih = let t = ih i m in (suc t.0, t.1)
      go false zero m ih = (zero, m)
      go false (suc i) m ih = let t = ih i m in (suc t.0, t.1)

  reached-at : (x : A) (gs : List (List A)) (y : A) → Mem y (reached joined x gs) → (j : ℕ) × (At gs j y)
  unfolding reached
  reached-at x [] y m = elim m [ ]
  reached-at x (g ∷ gs) y m = go (any (joined x) g) m (λ m. reached-at x gs y m)
    where
      more : (Mem y g) ⊎ (Mem y (reached joined x gs)) → (Mem y (reached joined x gs) → (j : ℕ) × (At gs j y)) → (j : ℕ) × (At (g ∷ gs) j y)
      more (inl a) ih = (zero, a)
      more (inr b) ih = let t = ih b in (suc t.0, t.1)

      go : (t : Bool) → Mem y (append_if joined t g (reached joined x gs)) → (Mem y (reached joined x gs) → (j : ℕ) × (At gs j y))
          → (j : ℕ) × (At (g ∷ gs) j y)
      go true m ih = more (mem-split y g (reached joined x gs) m) ih
      go false m ih = let t = ih m in (suc t.0, t.1)

  reached-or-other : (x : A) (gs : List (List A)) (i : ℕ) (y : A) → At gs i y
      → (Mem y (reached joined x gs)) ⊎ ((j : ℕ) × (At (others joined x gs) j y))
  unfolding reached others
  reached-or-other x [] i y m = elim m [ ]
  reached-or-other x (g ∷ gs) zero y m = go (any (joined x) g)
    where
      go : (t : Bool) → (Mem y (append_if joined t g (reached joined x gs))) ⊎ ((j : ℕ) × (At (cons_unless joined t g (others joined x gs)) j y))
      go true = inl (mem-left y g (reached joined x gs) m)
      go false = inr (zero, m)
  reached-or-other x (g ∷ gs) (suc i) y m = go (any (joined x) g) (reached-or-other x gs i y m)
    where
      go : (t : Bool) → (Mem y (reached joined x gs)) ⊎ ((j : ℕ) × (At (others joined x gs) j y))
          → (Mem y (append_if joined t g (reached joined x gs))) ⊎ ((j : ℕ) × (At (cons_unless joined t g (others joined x gs)) j y))
      go true (inl a) = inl (mem-right y g (reached joined x gs) a)
      go true (inr b) = inr b
      go false (inl a) = inl a
      go false (inr b) = inr (suc b.0, b.1)

  enter-keeps : (x : A) (gs : List (List A)) (i : ℕ) (y : A) → At gs i y → (j : ℕ) × (At (enter joined x gs) j y)
  unfolding enter
  enter-keeps x gs i y a = elim (reached-or-other x gs i y a) [ inl b ↦ (zero, there b) | inr b ↦ (suc b.0, b.1) ]

  enter-only : (x : A) (gs : List (List A)) (i : ℕ) (y : A) → At (enter joined x gs) i y → (y ≡ x) ⊎ ((j : ℕ) × (At gs j y))
  unfolding enter
  enter-only x gs zero y here = inl refl
  enter-only x gs zero y (there m) = inr (reached-at x gs y m)
  enter-only x gs (suc i) y a = inr (others-at x gs i y a)

  gather-keeps : (xs : List A) (gs : List (List A)) (i : ℕ) (y : A) → At gs i y → (j : ℕ) × (At (gather joined xs gs) j y)
  unfolding gather
  gather-keeps [] gs i y a = (i, a)
  gather-keeps (x ∷ xs) gs i y a = let b = enter-keeps x gs i y a in gather-keeps xs (enter joined x gs) b.0 y b.1

  gather-all : (xs : List A) (gs : List (List A)) (y : A) → Mem y xs → (j : ℕ) × (At (gather joined xs gs) j y)
  unfolding gather enter
  gather-all [] gs y x' = elim x' [ ]
  gather-all (x ∷ xs) gs y here = gather-keeps xs (enter joined x gs) zero x here
  gather-all (x ∷ xs) gs y (there m) = gather-all xs (enter joined x gs) y m

  gather-only : (xs : List A) (gs : List (List A)) (i : ℕ) (y : A) → At (gather joined xs gs) i y → (Mem y xs) ⊎ ((j : ℕ) × (At gs j y))
  unfolding gather
  gather-only [] gs i y a = inr (i, a)
  gather-only (x ∷ xs) gs i y a = more (gather-only xs (enter joined x gs) i y a)
    where
      more : (Mem y xs) ⊎ ((j : ℕ) × (At (enter joined x gs) j y)) → (Mem y (x ∷ xs)) ⊎ ((j : ℕ) × (At gs j y))
      more (inl m) = inl (there m)
      more (inr b) =
          elim (enter-only x gs b.0 y b.1) [
            | inl e ↦ inl (subst (λ (z : A). Mem z (x ∷ xs)) (sym e) here)
            | inr c ↦ inr c
          ]

  -- every element of the list is in a group, and no other
  pub groups-all : (xs : List A) (y : A) → Mem y xs → (i : ℕ) × (At (groups joined xs) i y)
  unfolding groups
  groups-all xs y m = gather-all xs [] y m

  pub groups-only : (xs : List A) (i : ℕ) (y : A) → At (groups joined xs) i y → Mem y xs
  unfolding groups
  groups-only xs i y a = elim (gather-only xs [] i y a) [ inl m ↦ m | inr b ↦ absurd (mem-none b.1) ]

-- ---- each group is linked, and elements of two groups are not joined

module _ {A : Type 0} (joined : A → A → Bool) (turn : (x y : A) → joined x y ≡ true → joined y x ≡ true) (member : A → Bool) where
  record One (g : List A) : Type 0 where
    some : (x : A) × (Mem x g)
    members : (x : A) → Mem x g → member x ≡ true
    linked : (x y : A) → Mem x g → Mem y g → Linked member joined x y

  Parted : List A → List (List A) → Type 0
  Parted g gs = (x y : A) (i : ℕ) → Mem x g → At gs i y → joined x y ≡ true → ⊥

  abbrev Good : List (List A) → Type 0
  Good [] = Unit {0}
  Good (g ∷ gs) = (One g) × (Parted g gs) × (Good gs)

  others-good : (x : A) (gs : List (List A)) → Good gs → Good (others joined x gs)
  unfolding others Parted
  others-good x [] o = tt
  others-good x (g ∷ gs) o = go (any (joined x) g) (others-good x gs o.2)
    where
      go : (t : Bool) → Good (others joined x gs) → Good (cons_unless joined t g (others joined x gs))
      go true r = r
      go false r = (o.0, λ y z i m a. (let t = others-at joined x gs i z a in o.1 y z t.0 m t.1), r)

  -- what x is joined to is in the groups reached
  others-parted : (x : A) (gs : List (List A)) (i : ℕ) (y : A) → At (others joined x gs) i y → joined x y ≡ true → ⊥
  unfolding others
  others-parted x [] i y m = elim m [ ]
  others-parted x (g ∷ gs) i y m = go (any (joined x) g) refl i m (λ i m. others-parted x gs i y m)
    where
      go : (t : Bool) → any (joined x) g ≡ t → (i : ℕ) → At (cons_unless joined t g (others joined x gs)) i y
          → ((i : ℕ) → At (others joined x gs) i y → joined x y ≡ true → ⊥) → joined x y ≡ true → ⊥
      go true e i m ih j = ih i m j
      go false e zero m ih j = not-both (joined x y) j (any_false (joined x) g e y m)
      go false e (suc i) m ih j = ih i m j

  reached-parted : (x : A) (gs : List (List A)) → Good gs → Parted (reached joined x gs) (others joined x gs)
  unfolding reached others Parted
  reached-parted x [] o y z i m a j = elim m [ ]
  reached-parted x (g ∷ gs) o y z i m a j = go (any (joined x) g) i m a (λ i m a. reached-parted x gs o.2 y z i m a j)
    where
      go : (t : Bool) (i : ℕ) → Mem y (append_if joined t g (reached joined x gs)) → At (cons_unless joined t g (others joined x gs)) i z
          → ((i : ℕ) → Mem y (reached joined x gs) → At (others joined x gs) i z → ⊥) → ⊥
      go true i m a ih =
          elim (mem-split y g (reached joined x gs) m) [
            | inl b ↦ let t = others-at joined x gs i z a in o.1 y z t.0 b t.1 j
            | inr b ↦ ih i b a
          ]
      go false zero m a ih = let t = reached-at joined x gs y m in o.1 z y t.0 a t.1 (turn y z j)
      go false (suc i) m a ih = ih i m a

  reached-linked : (x : A) (gs : List (List A)) → Good gs → member x ≡ true → (y : A) → Mem y (reached joined x gs) → Linked member joined x y
  unfolding reached
  reached-linked x [] o mx y m = elim m [ ]
  reached-linked x (g ∷ gs) o mx y m = go (any (joined x) g) refl m (λ m. reached-linked x gs o.2 mx y m)
    where
      go : (t : Bool) → any (joined x) g ≡ t → Mem y (append_if joined t g (reached joined x gs))
          → (Mem y (reached joined x gs) → Linked member joined x y) → Linked member joined x y
      go true e m ih =
          elim (mem-split y g (reached joined x gs) m) [
            | inl b ↦ let h = any-true (joined x) g e in before mx h.2 (o.0.linked h.0 y h.1 b)
            | inr b ↦ ih b
          ]
      go false e m ih = ih m

  enter-good : (x : A) (gs : List (List A)) → member x ≡ true → Good gs → Good (enter joined x gs)
  unfolding enter Parted
  enter-good x gs mx o = (record { some = (x, here); members = λ y m. last-member (from y m); linked = linked' }, parted, others-good x gs o)
    where
      from : (y : A) → Mem y (x ∷ reached joined x gs) → Linked member joined x y
      from y here = stay mx
      from y (there m) = reached-linked x gs o mx y m

      linked' : (y z : A) → Mem y (x ∷ reached joined x gs) → Mem z (x ∷ reached joined x gs) → Linked member joined y z
      linked' y z m n = append (reverse turn (from y m)) (from z n)

      parted : (y z : A) (i : ℕ) → Mem y (x ∷ reached joined x gs) → At (others joined x gs) i z → joined y z ≡ true → ⊥
      parted y z i here a j = others-parted x gs i z a j
      parted y z i (there m) a j = reached-parted x gs o y z i m a j

  gather-good : (xs : List A) (gs : List (List A)) → ((x : A) → Mem x xs → member x ≡ true) → Good gs → Good (gather joined xs gs)
  unfolding gather
  gather-good [] gs h o = o
  gather-good (x ∷ xs) gs h o = gather-good xs (enter joined x gs) (λ y m. h y (there m)) (enter-good x gs (h x here) o)

  at_some : (gs : List (List A)) → Good gs → (i : ℕ) → i < length gs → (x : A) × (At gs i x)
  at_some [] o i h = absurd (omega arith)
  at_some (g ∷ gs) o zero h = o.0.some
  at_some (g ∷ gs) o (suc i) h = at_some gs o.2 i (omega arith)

  at-linked : (gs : List (List A)) → Good gs → (i : ℕ) (x y : A) → At gs i x → At gs i y → Linked member joined x y
  at-linked [] o i x y a b = elim a [ ]
  at-linked (g ∷ gs) o zero x y a b = o.0.linked x y a b
  at-linked (g ∷ gs) o (suc i) x y a b = at-linked gs o.2 i x y a b

  at_joined : (gs : List (List A)) → Good gs → (i j : ℕ) (x y : A) → At gs i x → At gs j y → joined x y ≡ true → i ≡ j
  unfolding Parted
  at_joined [] o i j x y a b h = elim a [ ]
  at_joined (g ∷ gs) o zero zero x y a b h = refl
  at_joined (g ∷ gs) o zero (suc j) x y a b h = absurd (o.1 x y j a b h)
  at_joined (g ∷ gs) o (suc i) zero x y a b h = absurd (o.1 y x i b a (turn x y h))
  at_joined (g ∷ gs) o (suc i) (suc j) x y a b h = ap suc (at_joined gs o.2 i j x y a b h)

-- ---- the groups of a list whose elements are the members, for what is joined both ways

module _ {A : Type 0} (joined : A → A → Bool) (turn : (x y : A) → joined x y ≡ true → joined y x ≡ true) (member : A → Bool) (xs : List A)
    (are : (x : A) → Mem x xs → member x ≡ true) (all : (x : A) → member x ≡ true → Mem x xs) where
  good : Good joined turn member (groups joined xs)
  unfolding groups
  good = gather-good joined turn member xs [] are tt

  pub group-filled : (i : ℕ) → i < length (groups joined xs) → (x : A) × (At (groups joined xs) i x)
  group-filled i h = at_some joined turn member (groups joined xs) good i h

  pub group_of : (x : A) → member x ≡ true → (i : ℕ) × (At (groups joined xs) i x)
  group_of x m = groups-all joined xs x (all x m)

  pub group-member : (i : ℕ) (x : A) → At (groups joined xs) i x → member x ≡ true
  group-member i x a = are x (groups-only joined xs i x a)

  pub group-linked : (i : ℕ) (x y : A) → At (groups joined xs) i x → At (groups joined xs) i y → Linked member joined x y
  group-linked i x y a b = at-linked joined turn member (groups joined xs) good i x y a b

  pub group-joined : (i j : ℕ) (x y : A) → At (groups joined xs) i x → At (groups joined xs) j y → joined x y ≡ true → i ≡ j
  group-joined i j x y a b h = at_joined joined turn member (groups joined xs) good i j x y a b h

  -- a group has all that is linked to its members
  pub linked-group : (i : ℕ) {x y : A} → Linked member joined x y → At (groups joined xs) i x → At (groups joined xs) i y
  linked-group i l a =
      follow (λ z. At (groups joined xs) i z)
      (λ u v p j m. let b = group_of v m in subst (λ (k : ℕ). At (groups joined xs) k v) (sym (group-joined i b.0 u v p b.1 j)) b.1) l a

  -- one group: any two members are linked
  pub group-one : length (groups joined xs) ≡ 1 → OnePiece member joined
  group-one e x y m n =
      let a = group_of x m in
      let b = group_of y n in
      let la = at_lt (groups joined xs) a.0 x a.1 in
      let lb = at_lt (groups joined xs) b.0 y b.1 in
      let q : b.0 ≡ a.0 = omega arith in
      group-linked a.0 x y a.1 (subst (λ (k : ℕ). At (groups joined xs) k y) q b.1)

-- ---- and to itself

module _ {A : Type 0} (joined : A → A → Bool) (turn : (x y : A) → joined x y ≡ true → joined y x ≡ true) (self : (x : A) → joined x x ≡ true)
    (member : A → Bool) (xs : List A) (are : (x : A) → Mem x xs → member x ≡ true) (all : (x : A) → member x ≡ true → Mem x xs) where
  -- an element is in one group only
  pub group-same : (i j : ℕ) (x : A) → At (groups joined xs) i x → At (groups joined xs) j x → i ≡ j
  group-same i j x a b = group-joined joined turn member xs are all i j x x a b (self x)
