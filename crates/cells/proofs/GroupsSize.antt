-- Lists with no element twice; the groups of such a list have none twice.
use mathlib.Core.Path.{◌≡◌, refl, ap, subst}
use mathlib.Core.Logic.{◌⊎◌, inl, inr}
use mathlib.Core.Bool.{Bool, true, false}
use mathlib.Core.List.{List, [], ◌∷◌, ◌++◌}
use Prim.Native.Nat.{ℕ, zero, suc, ◌≤◌}
use native.Mathlib.Omega.{arith}
use lib.ListN.{length, get_or}
use Rattle.cells.specs.Groups.{any, cons_if, filter, append_if, reached, cons_unless, others, enter, gather, groups}
use Rattle.prelude.proofs.Lists.{Mem, here, there, mem-cons, mem-left, mem-right, mem-split, filter-mem}
use Rattle.cells.proofs.Groups.{At, mem-none}

-- ---- no element twice

abbrev pub Distinct : {A : Type 0} → List A → Type 0
Distinct [] = Unit {0}
Distinct (x ∷ xs) = (Mem x xs → ⊥) × (Distinct xs)

module _ {A : Type 0} where
  pub distinct_append : (g h : List A) → Distinct g → Distinct h → ((x : A) → Mem x g → Mem x h → ⊥) → Distinct (g ++ h)
  distinct_append [] h d e f = e
  distinct_append (x ∷ g) h d e f =
      (λ m. elim (mem-split x g h m) [ inl a ↦ d.0 a | inr b ↦ f x here b ], distinct_append g h d.1 e (λ y a b. f y (there a) b))

  pub append-distinct : (g h : List A) → Distinct (g ++ h) → (Distinct g) × (Distinct h) × ((x : A) → Mem x g → Mem x h → ⊥)
  append-distinct [] h d = (tt, d, λ x a b. mem-none a)
  append-distinct (x ∷ g) h d = let r = append-distinct g h d.1 in ((λ m. d.0 (mem-left x g h m), r.0), r.1, none r.2)
    where
      none : ((y : A) → Mem y g → Mem y h → ⊥) → (y : A) → Mem y (x ∷ g) → Mem y h → ⊥
      none f y here b = d.0 (mem-right y g h b)
      none f y (there a) b = f y a b

  pub distinct_filter : (p : A → Bool) (xs : List A) → Distinct xs → Distinct (filter p xs)
  unfolding filter
  distinct_filter p [] d = tt
  distinct_filter p (x ∷ xs) d = go (p x) (distinct_filter p xs d.1)
    where
      go : (t : Bool) → Distinct (filter p xs) → Distinct (cons_if t x (filter p xs))
      go true r = (λ m. d.0 (filter-mem p xs x m).0, r)
      go false r = r

  -- the list without one of its elements
  remove : {x : A} {xs : List A} → Mem x xs → List A
  remove (here {xs = xs}) = xs
  remove (there {y = y} m) = y ∷ remove m

  remove-length : {x : A} {xs : List A} (m : Mem x xs) → length xs ≡ suc (length (remove m))
  unfolding remove
  remove-length here = refl
  remove-length (there m) = ap suc (remove-length m)

  remove-mem : {x : A} {xs : List A} (m : Mem x xs) (y : A) → Mem y xs → (y ≡ x) ⊎ (Mem y (remove m))
  unfolding remove
  remove-mem here y n = mem-cons n
  remove-mem (there m) y here = inr here
  remove-mem (there m) y (there n) = elim (remove-mem m y n) [ inl e ↦ inl e | inr r ↦ inr (there r) ]

  -- a list with no element twice is no longer than a list that has its elements
  pub distinct-le : (g h : List A) → Distinct g → ((x : A) → Mem x g → Mem x h) → length g ≤ length h
  distinct-le [] h d sub = omega arith
  distinct-le (x ∷ g) h d sub =
      let e = remove-length (sub x here) in
      let r =
      distinct-le g (remove (sub x here)) d.1 (λ y m. elim (remove-mem (sub x here) y (sub y (there m))) [
        | inl q ↦ absurd (d.0 (subst (λ (z : A). Mem z g) q m))
        | inr n ↦ n
      ]) in
      omega arith

  pub distinct-length : (g h : List A) → Distinct g → Distinct h → ((x : A) → Mem x g → Mem x h) → ((x : A) → Mem x h → Mem x g) → length g ≡ length h
  distinct-length g h d e f k = let a = distinct-le g h d f in let b = distinct-le h g e k in omega arith

-- ---- all groups as one list

abbrev pub flat : {A : Type 0} → List (List A) → List A
flat [] = []
flat (g ∷ gs) = g ++ flat gs

module _ {A : Type 0} where
  flat-at : (gs : List (List A)) (i : ℕ) (x : A) → At gs i x → Mem x (flat gs)
  flat-at [] i x a = elim a [ ]
  flat-at (g ∷ gs) zero x a = mem-left x g (flat gs) a
  flat-at (g ∷ gs) (suc i) x a = mem-right x g (flat gs) (flat-at gs i x a)

  pub distinct-at : (gs : List (List A)) (i : ℕ) → Distinct (flat gs) → Distinct (get_or gs i [])
  distinct-at [] i d = tt
  distinct-at (g ∷ gs) zero d = (append-distinct g (flat gs) d).0
  distinct-at (g ∷ gs) (suc i) d = distinct-at gs i (append-distinct g (flat gs) d).1

  -- an element of such groups is in one of them only
  pub distinct-same : (gs : List (List A)) → Distinct (flat gs) → (i j : ℕ) (x : A) → At gs i x → At gs j x → i ≡ j
  distinct-same [] d i j x a b = absurd (mem-none a)
  distinct-same (g ∷ gs) d zero zero x a b = refl
  distinct-same (g ∷ gs) d zero (suc j) x a b = absurd ((append-distinct g (flat gs) d).2 x a (flat-at gs j x b))
  distinct-same (g ∷ gs) d (suc i) zero x a b = absurd ((append-distinct g (flat gs) d).2 x b (flat-at gs i x a))
  distinct-same (g ∷ gs) d (suc i) (suc j) x a b = ap suc (distinct-same gs (append-distinct g (flat gs) d).1 i j x a b)

module _ {A : Type 0} (joined : A → A → Bool) where
  -- the groups reached, and then the others
  split : A → List (List A) → List A
  split x gs = reached joined x gs ++ flat (others joined x gs)

  split-mem : (x : A) (gs : List (List A)) (y : A) → Mem y (split x gs) → Mem y (flat gs)
  unfolding split reached others
  split-mem x [] y m = m
  split-mem x (g ∷ gs) y m = go (any (joined x) g) m (λ m. split-mem x gs y m)
    where
      r : List A
      r = reached joined x gs

      o : List (List A)
      o = others joined x gs

      go : (t : Bool) → Mem y (append_if joined t g r ++ flat (cons_unless joined t g o)) → (Mem y (r ++ flat o) → Mem y (flat gs))
          → Mem y (g ++ flat gs)
      go true m ih =
          elim (mem-split y (g ++ r) (flat o) m) [
            | inl a ↦ elim (mem-split y g r a) [ inl b ↦ mem-left y g (flat gs) b | inr b ↦ mem-right y g (flat gs) (ih (mem-left y r (flat o) b)) ]
            | inr a ↦ mem-right y g (flat gs) (ih (mem-right y r (flat o) a))
          ]
      go false m ih =
          elim (mem-split y r (g ++ flat o) m) [
            | inl a ↦ mem-right y g (flat gs) (ih (mem-left y r (flat o) a))
            | inr a ↦ elim (mem-split y g (flat o) a) [ inl b ↦ mem-left y g (flat gs) b | inr b ↦ mem-right y g (flat gs) (ih (mem-right y r (flat o) b)) ]
          ]

  split-distinct : (x : A) (gs : List (List A)) → Distinct (flat gs) → Distinct (split x gs)
  unfolding split reached others
  split-distinct x [] d = tt
  split-distinct x (g ∷ gs) d = let p = append-distinct g (flat gs) d in go (any (joined x) g) p (split-distinct x gs p.1) (split-mem x gs)
    where
      r : List A
      r = reached joined x gs

      o : List (List A)
      o = others joined x gs

      go : (t : Bool) → (Distinct g) × (Distinct (flat gs)) × ((y : A) → Mem y g → Mem y (flat gs) → ⊥) → Distinct (r ++ flat o)
          → ((y : A) → Mem y (r ++ flat o) → Mem y (flat gs))
          → Distinct (append_if joined t g r ++ flat (cons_unless joined t g o))
      go true p ih sub =
          let q = append-distinct r (flat o) ih in
          distinct_append (g ++ r) (flat o)
          (distinct_append g r p.0 q.0 (λ y a b. p.2 y a (sub y (mem-left y r (flat o) b)))) q.1
          (λ y a b. elim (mem-split y g r a) [ inl c ↦ p.2 y c (sub y (mem-right y r (flat o) b)) | inr c ↦ q.2 y c b ])
      go false p ih sub =
          let q = append-distinct r (flat o) ih in
          distinct_append r (g ++ flat o) q.0
          (distinct_append g (flat o) p.0 q.1 (λ y a b. p.2 y a (sub y (mem-right y r (flat o) b))))
          (λ y a b. elim (mem-split y g (flat o) b) [ inl c ↦ p.2 y c (sub y (mem-left y r (flat o) a)) | inr c ↦ q.2 y a c ])

  gather-distinct : (xs : List A) (gs : List (List A)) → Distinct xs → Distinct (flat gs) → ((x : A) → Mem x xs → Mem x (flat gs) → ⊥)
      → Distinct (flat (gather joined xs gs))
  unfolding gather enter split
  gather-distinct [] gs d e f = e
  gather-distinct (x ∷ xs) gs d e f =
      gather-distinct xs (enter joined x gs) d.1 (λ m. f x here (split-mem x gs x m), split-distinct x gs e) (λ y a b. none y a b)
    where
      none : (y : A) → Mem y xs → Mem y (x ∷ split x gs) → ⊥
      none y a here = d.0 a
      none y a (there b) = f y (there a) (split-mem x gs y b)

  pub groups-distinct : (xs : List A) → Distinct xs → Distinct (flat (groups joined xs))
  unfolding groups
  groups-distinct xs d = gather-distinct xs [] d tt (λ x a b. mem-none b)
