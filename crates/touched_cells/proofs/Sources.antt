-- Bits that a step takes from other bits: `any` over the lists of where they come from.
use mathlib.Core.Path.{◌≡◌, refl, sym, ap, ◌∙◌, subst}
use mathlib.Core.Bool.{Bool, true, false, not, ◌&&◌, ◌||◌}
use mathlib.Core.List.{List, [], ◌∷◌, ◌++◌}
use Prim.Native.Nat.{ℕ}
use lib.Dec.{eqb}
use borrow.Author.Tests.{eqb-true}
use Rattle.cells.specs.Groups.{any, cons_if, filter}
use Rattle.prelude.proofs.Bools.{and-true, not-true, not-false, both_ways}
use Rattle.prelude.proofs.Lists.{any-true, true-any, any_false, any_append}

pub any-cons_if : (b : Bool) (p : ℕ → Bool) (x : ℕ) (xs : List ℕ) → any p (cons_if b x xs) ≡ (b && p x) || any p xs
unfolding any
any-cons_if true p x xs = refl
any-cons_if false p x xs = refl

pub any-filter : (q p : ℕ → Bool) (xs : List ℕ) → any p (filter q xs) ≡ any (λ x. q x && p x) xs
unfolding any filter
any-filter q p [] = refl
any-filter q p (x ∷ xs) = any-cons_if (q x) p x (filter q xs) ∙ ap (λ (b : Bool). (q x && p x) || b) (any-filter q p xs)

abbrev pub bind : (ℕ → List ℕ) → List ℕ → List ℕ
bind f [] = []
bind f (x ∷ xs) = f x ++ bind f xs

pub any-bind : (p : ℕ → Bool) (f : ℕ → List ℕ) (xs : List ℕ) → any (λ x. any p (f x)) xs ≡ any p (bind f xs)
unfolding any
any-bind p f [] = refl
any-bind p f (x ∷ xs) = ap (λ (b : Bool). any p (f x) || b) (any-bind p f xs) ∙ sym (any_append p (f x) (bind f xs))

abbrev pub within : List ℕ → List ℕ → Bool
within xs ys = not (any (λ x. not (any (eqb x) ys)) xs)

any-within : (p : ℕ → Bool) (xs ys : List ℕ) → within xs ys ≡ true → any p xs ≡ true → any p ys ≡ true
any-within p xs ys w h =
    let r = any-true p xs h in
    let x = r.0 in
    let out = any_false (λ x. not (any (eqb x) ys)) xs (not-true (any (λ x. not (any (eqb x) ys)) xs) w) x r.1 in
    let s = any-true (eqb x) ys (not-false (any (eqb x) ys) out) in
    true-any p ys s.0 s.1 (subst (λ (z : ℕ). p z ≡ true) (eqb-true x s.0 s.2) r.2)

pub any_same : (p : ℕ → Bool) (xs ys : List ℕ) → (within xs ys && within ys xs) ≡ true → any p xs ≡ any p ys
any_same p xs ys h =
    let w = and-true (within xs ys) (within ys xs) h in
    both_ways (any p xs) (any p ys) (any-within p xs ys w.0) (any-within p ys xs w.1)
