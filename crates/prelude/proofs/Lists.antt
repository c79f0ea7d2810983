-- Members of a list; `any` and `filter` by members.
use mathlib.Core.Path.{◌≡◌, refl, ap, ap₂, sym, ◌∙◌, subst}
use mathlib.Core.Logic.{◌⊎◌, inl, inr}
use mathlib.Core.Bool.{Bool, true, false, ◌||◌, true≢false}
use mathlib.Core.List.{List, [], ◌∷◌, ◌++◌, map}
use Prim.Native.Nat.{ℕ, zero, suc, ◌<◌}
use native.Mathlib.Omega.{arith}
use lib.ListN.{length, get_or, take, drop, take-append-drop}
use Rattle.prelude.specs.Lists.{any, cons_if, filter}
use Rattle.prelude.proofs.Bools.{or-true, true-or, or-false, or_assoc}

pub data Mem {A : Type 0} (x : A) : List A → Type 0 where
  here : {xs : List A} → Mem x (x ∷ xs)
  there : {y : A} {xs : List A} → Mem x xs → Mem x (y ∷ xs)

module _ {A : Type 0} where
  pub mem-cons : {x y : A} {xs : List A} → Mem x (y ∷ xs) → (x ≡ y) ⊎ (Mem x xs)
  mem-cons here = inl refl
  mem-cons (there m) = inr m

  pub mem-left : (x : A) (g h : List A) → Mem x g → Mem x (g ++ h)
  mem-left x g h here = here
  mem-left x g h (there {xs = xs} m) = there (mem-left x xs h m)

  pub mem-right : (x : A) (g h : List A) → Mem x h → Mem x (g ++ h)
  mem-right x [] h m = m
  mem-right x (y ∷ g) h m = there (mem-right x g h m)

  pub mem-split : (x : A) (g h : List A) → Mem x (g ++ h) → (Mem x g) ⊎ (Mem x h)
  mem-split x [] h m = inr m
  mem-split x (y ∷ g) h here = inl here
  mem-split x (y ∷ g) h (there m) = elim (mem-split x g h m) [ inl l ↦ inl (there l) | inr r ↦ inr r ]

  -- ---- any

  pub any-true : (p : A → Bool) (xs : List A) → any p xs ≡ true → (x : A) × (Mem x xs) × (p x ≡ true)
  unfolding any
  any-true p [] e = absurd (true≢false (sym e))
  any-true p (y ∷ xs) e =
      elim (or-true (p y) (any p xs) e) [
        | inl h ↦ (y, here, h)
        | inr h ↦ let r = any-true p xs h in (r.0, there r.1, r.2)
      ]

  pub true-any : (p : A → Bool) (xs : List A) (x : A) → Mem x xs → p x ≡ true → any p xs ≡ true
  unfolding any
  true-any p [] x x4 e = elim x4 [ ]
  true-any p (y ∷ xs) x here e = true-or (p x) (any p xs) (inl e)
  true-any p (y ∷ xs) x (there m) e = true-or (p y) (any p xs) (inr (true-any p xs x m e))

  pub any_false : (p : A → Bool) (xs : List A) → any p xs ≡ false → (x : A) → Mem x xs → p x ≡ false
  unfolding any
  any_false p [] e x x4 = elim x4 [ ]
  any_false p (y ∷ xs) e x here = (or-false (p x) (any p xs) e).0
  any_false p (y ∷ xs) e x (there m) = any_false p xs (or-false (p y) (any p xs) e).1 x m

  pub false-any : (p : A → Bool) (xs : List A) → ((x : A) → Mem x xs → p x ≡ false) → any p xs ≡ false
  unfolding any
  false-any p [] h = refl
  false-any p (y ∷ xs) h = ap₂ ◌||◌ (h y here) (false-any p xs (λ x m. h x (there m)))

  pub any-ext : (p q : A → Bool) (xs : List A) → ((x : A) → Mem x xs → p x ≡ q x) → any p xs ≡ any q xs
  unfolding any
  any-ext p q [] h = refl
  any-ext p q (y ∷ xs) h = ap₂ ◌||◌ (h y here) (any-ext p q xs (λ x m. h x (there m)))

  pub any-map : (p : A → Bool) (f : ℕ → A) (xs : List ℕ) → any p (map f xs) ≡ any (λ x. p (f x)) xs
  unfolding any
  any-map p f [] = refl
  any-map p f (x ∷ xs) = ap (λ (t : Bool). p (f x) || t) (any-map p f xs)

  pub any_append : (p : A → Bool) (xs ys : List A) → any p (xs ++ ys) ≡ any p xs || any p ys
  unfolding any
  any_append p [] ys = refl
  any_append p (x ∷ xs) ys = ap (λ (t : Bool). p x || t) (any_append p xs ys) ∙ sym (or_assoc (p x) (any p xs) (any p ys))

  -- none passes: no element by its index, none of the first ones, none of the others
  pub none-at : (p : A → Bool) (d : A) (xs : List A) → any p xs ≡ false → (i : ℕ) → i < length xs → p (get_or xs i d) ≡ false
  unfolding any
  none-at p d [] e i h = let z : ⊥ = omega arith in absurd z
  none-at p d (x ∷ xs) e zero h = (or-false (p x) (any p xs) e).0
  none-at p d (x ∷ xs) e (suc i) h = none-at p d xs (or-false (p x) (any p xs) e).1 i (omega arith)

  pub none-split : (p : A → Bool) (n : ℕ) (xs : List A) → any p xs ≡ false → (any p (take n xs) ≡ false) × (any p (drop n xs) ≡ false)
  none-split p n xs e =
      or-false (any p (take n xs)) (any p (drop n xs))
      (sym (any_append p (take n xs) (drop n xs)) ∙ ap (any p) (take-append-drop n xs) ∙ e)

  -- ---- those

  pub filter-mem : (p : A → Bool) (xs : List A) (x : A) → Mem x (filter p xs) → (Mem x xs) × (p x ≡ true)
  unfolding filter
  filter-mem p [] x m = elim m [ ]
  filter-mem p (y ∷ xs) x m = go (p y) refl m (λ m. filter-mem p xs x m)
    where
      go : (t : Bool) → p y ≡ t → Mem x (cons_if t y (filter p xs)) → (Mem x (filter p xs) → (Mem x xs) × (p x ≡ true)) → (Mem x (y ∷ xs)) × (p x ≡ true)
      go false e m ih = let r = ih m in (there r.0, r.1)
      go true e m ih =
          elim (mem-cons m) [
            | inl q ↦ (subst (λ (z : A). Mem z (y ∷ xs)) (sym q) here, ap p q ∙ e)
            | inr n ↦ let r = ih n in (there r.0, r.1)
          ]

  pub mem-filter : (p : A → Bool) (xs : List A) (x : A) → Mem x xs → p x ≡ true → Mem x (filter p xs)
  unfolding filter
  mem-filter p [] x x4 e = elim x4 [ ]
  mem-filter p (y ∷ xs) x here e = subst (λ (t : Bool). Mem x (cons_if t x (filter p xs))) (sym e) here
  mem-filter p (y ∷ xs) x (there m) e = go (p y) (mem-filter p xs x m e)
    where
      go : (t : Bool) → Mem x (filter p xs) → Mem x (cons_if t y (filter p xs))
      go true n = there n
      go false n = n

  pub filter-ext : (p q : A → Bool) (xs : List A) → ((x : A) → Mem x xs → p x ≡ q x) → filter p xs ≡ filter q xs
  unfolding filter
  filter-ext p q [] h = refl
  filter-ext p q (y ∷ xs) h = ap₂ (λ (t : Bool) (r : List A). cons_if t y r) (h y here) (filter-ext p q xs (λ x m. h x (there m)))

  pub filter-append : (p : A → Bool) (xs ys : List A) → filter p (xs ++ ys) ≡ filter p xs ++ filter p ys
  unfolding filter
  filter-append p [] ys = refl
  filter-append p (x ∷ xs) ys = go (p x) (filter-append p xs ys)
    where
      go : (t : Bool) → filter p (xs ++ ys) ≡ filter p xs ++ filter p ys → cons_if t x (filter p (xs ++ ys)) ≡ cons_if t x (filter p xs) ++ filter p ys
      go true e = ap (λ (r : List A). x ∷ r) e
      go false e = e
