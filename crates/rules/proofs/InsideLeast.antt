-- The least and the greatest number of a list.
use mathlib.Core.Path.{◌≡◌, refl, sym, ◌∙◌, subst}
use mathlib.Core.Logic.{◌⊎◌, inl, inr}
use mathlib.Core.List.{List, [], ◌∷◌, map}
use Prim.Native.Nat.{ℕ, ◌≤◌, ◌<◌, min, max}
use native.Mathlib.Omega.{arith}
use native.Mathlib.Decide.{dec_le}
use Rattle.prelude.proofs.Lists.{Mem, here, there}
use Rattle.rules.specs.Begin.{least, greatest}

pub least-le : (n : ℕ) (xs : List ℕ) (x : ℕ) → Mem x xs → least n xs ≤ x
unfolding least
least-le n [] x x3 = elim x3 [ ]
least-le n (y ∷ xs) x here = omega arith
least-le n (y ∷ xs) x (there m) = omega (arith, least-le n xs x m)

-- it is the start, or an element
pub least-is : (n : ℕ) (xs : List ℕ) → (least n xs ≡ n) ⊎ (Mem (least n xs) xs)
unfolding least
least-is n [] = inl refl
least-is n (x ∷ xs) = go (dec_le x (least n xs)) (least-is n xs)
  where
    there' : min x (least n xs) ≡ least n xs → (least n xs ≡ n) ⊎ (Mem (least n xs) xs)
        → (min x (least n xs) ≡ n) ⊎ (Mem (min x (least n xs)) (x ∷ xs))
    there' e (inl f) = inl (e ∙ f)
    there' e (inr m) = inr (subst (λ (y : ℕ). Mem y (x ∷ xs)) (sym e) (there m))

    go : Dec (x ≤ least n xs) → (least n xs ≡ n) ⊎ (Mem (least n xs) xs) → (min x (least n xs) ≡ n) ⊎ (Mem (min x (least n xs)) (x ∷ xs))
    go (yes h) r = let e : x ≡ min x (least n xs) = omega arith in inr (subst (λ (y : ℕ). Mem y (x ∷ xs)) e here)
    go (no h) r = there' (omega arith) r

pub least-mem : (n : ℕ) (xs : List ℕ) → least n xs < n → Mem (least n xs) xs
least-mem n xs h = elim (least-is n xs) [ inl e ↦ (let z : ⊥ = omega arith in absurd z) | inr m ↦ m ]

pub le-greatest : (n : ℕ) (xs : List ℕ) (x : ℕ) → Mem x xs → x ≤ greatest n xs
unfolding greatest
le-greatest n [] x x3 = elim x3 [ ]
le-greatest n (y ∷ xs) x here = omega arith
le-greatest n (y ∷ xs) x (there m) = omega (arith, le-greatest n xs x m)

pub start-le : (n : ℕ) (xs : List ℕ) → n ≤ greatest n xs
unfolding greatest
start-le n [] = omega arith
start-le n (x ∷ xs) = omega (arith, start-le n xs)

pub greatest-is : (n : ℕ) (xs : List ℕ) → (greatest n xs ≡ n) ⊎ (Mem (greatest n xs) xs)
unfolding greatest
greatest-is n [] = inl refl
greatest-is n (x ∷ xs) = go (dec_le (greatest n xs) x) (greatest-is n xs)
  where
    there' : max x (greatest n xs) ≡ greatest n xs → (greatest n xs ≡ n) ⊎ (Mem (greatest n xs) xs)
        → (max x (greatest n xs) ≡ n) ⊎ (Mem (max x (greatest n xs)) (x ∷ xs))
    there' e (inl f) = inl (e ∙ f)
    there' e (inr m) = inr (subst (λ (y : ℕ). Mem y (x ∷ xs)) (sym e) (there m))

    go : Dec (greatest n xs ≤ x) → (greatest n xs ≡ n) ⊎ (Mem (greatest n xs) xs)
        → (max x (greatest n xs) ≡ n) ⊎ (Mem (max x (greatest n xs)) (x ∷ xs))
    go (yes h) r = let e : x ≡ max x (greatest n xs) = omega arith in inr (subst (λ (y : ℕ). Mem y (x ∷ xs)) e here)
    go (no h) r = there' (omega arith) r

-- ---- members of a list under a function

pub mem-map : {A B : Type 0} (f : A → B) (xs : List A) (x : A) → Mem x xs → Mem (f x) (map f xs)
mem-map {A = A} {B = B} f [] x x3 = elim x3 [ ]
mem-map f (y ∷ xs) x here = here
mem-map f (y ∷ xs) x (there m) = there (mem-map f xs x m)

pub map-mem : {A B : Type 0} (f : A → B) (xs : List A) (y : B) → Mem y (map f xs) → (x : A) × (Mem x xs) × (y ≡ f x)
map-mem {A = A} {B = B} f [] y x' = elim x' [ ]
map-mem f (x ∷ xs) y here = (x, here, refl)
map-mem f (x ∷ xs) y (there m) = let r = map-mem f xs y m in (r.0, there r.1, r.2)
