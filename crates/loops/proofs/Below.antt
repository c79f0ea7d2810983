-- Lists over the indices below n: one index more, and equal lists; and scans of a list.
use mathlib.Core.Path.{◌≡◌, refl, sym, ap, ap₂, ◌∙◌}
use mathlib.Core.Bool.{Bool, true, false, cond, ◌||◌}
use mathlib.Core.List.{List, [], ◌∷◌, ◌++◌, map}
use Prim.Native.Nat.{ℕ, ◌+◌, ◌≤◌, ◌<◌, max}
use native.Mathlib.Omega.{arith}
use native.Mathlib.Numerals.{add-one}
use lib.ListN.{length, get_or, drop, drop_of_length-le}
use lib.Seq.{drop-cons}
use Rattle.cells.specs.Groups.{any, cons_if, filter}
use Rattle.prelude.proofs.Bools.{or-zero, or_assoc}
use Rattle.prelude.proofs.Lists.{Mem, here, there, filter-append}
use Rattle.rules.specs.Grid.{range}
use Rattle.rules.specs.Begin.{greatest}
use Rattle.prelude.proofs.Ranges.{range-suc, get_d-map-range, length-map-range, is-map-range}

range-more : (i : ℕ) → range 0 (i + 1) ≡ range 0 i ++ (i ∷ [])
range-more i =
    let e : 0 + i ≡ i = omega arith in
    ap (range 0) (add-one i) ∙ range-suc 0 i ∙ ap (λ (j : ℕ). range 0 i ++ (j ∷ [])) e

filter_more : (p : ℕ → Bool) (i : ℕ) → filter p (range 0 (i + 1)) ≡ filter p (range 0 i) ++ cons_if (p i) i []
unfolding filter
filter_more p i = ap (filter p) (range-more i) ∙ filter-append p (range 0 i) (i ∷ [])

-- ---- the greatest of a list with one more at the end

greatest-end : (low x : ℕ) (l : List ℕ) → greatest low (l ++ (x ∷ [])) ≡ max x (greatest low l)
unfolding greatest
greatest-end low x [] = refl
greatest-end low x (y ∷ l) = let e = greatest-end low x l in omega arith

map-end : (f : ℕ → ℕ) (x : ℕ) (l : List ℕ) → map f (l ++ (x ∷ [])) ≡ map f l ++ (f x ∷ [])
map-end f x [] = refl
map-end f x (y ∷ l) = ap (λ (r : List ℕ). f y ∷ r) (map-end f x l)

map-nil : (f : ℕ → ℕ) (l : List ℕ) → map f (l ++ []) ≡ map f l
map-nil f [] = refl
map-nil f (y ∷ l) = ap (λ (r : List ℕ). f y ∷ r) (map-nil f l)

module _ (f : ℕ → ℕ) (p : ℕ → Bool) (start i : ℕ) where
  abbrev pub so_far : ℕ
  so_far = greatest start (map f (filter p (range 0 i)))

  pub greatest-more : greatest start (map f (filter p (range 0 (i + 1)))) ≡ cond (p i) (max (f i) so_far) so_far
  greatest-more = ap (λ (l : List ℕ). greatest start (map f l)) (filter_more p i) ∙ go (p i)
    where
      go : (t : Bool) → greatest start (map f (filter p (range 0 i) ++ cons_if t i [])) ≡ cond t (max (f i) so_far) so_far
      go true = ap (greatest start) (map-end f i (filter p (range 0 i))) ∙ greatest-end start (f i) (map f (filter p (range 0 i)))
      go false = ap (greatest start) (map-nil f (filter p (range 0 i)))

-- two lists made from the indices are equal where their elements are
pub map_same : {A : Type 0} (f g : ℕ → A) (d : A) (n : ℕ) → ((k : ℕ) → k < n → f k ≡ g k) → map f (range 0 n) ≡ map g (range 0 n)
map_same f g d n e = is-map-range g d n (map f (range 0 n)) (length-map-range f n) (λ i h. get_d-map-range f d n i h ∙ e i h)

-- and so are two that are made from the elements of one list
pub map-ext : {A B : Type 0} (f g : A → B) (xs : List A) → ((x : A) → Mem x xs → f x ≡ g x) → map f xs ≡ map g xs
map-ext f g [] e = refl
map-ext f g (x ∷ xs) e = ap₂ ◌∷◌ (e x here) (map-ext f g xs (λ y m. e y (there m)))

-- ---- a scan of a list: what is found before i, or stands from i on, is what stands in all

-- one element more is looked at
pub look-next : {A : Type 0} (p : A → Bool) (xs : List A) (i : ℕ) (d : A) (found : Bool) {here : Bool} → i < length xs → here ≡ p (get_or xs i d)
    → ((found || here) || any p (drop (i + 1) xs)) ≡ (found || any p (drop i xs))
unfolding any
look-next {A = A} p xs i d found {here} h e =
    or_assoc found here (any p (drop (i + 1) xs))
    ∙ ap₂ (λ (t : Bool) (k : ℕ). found || (t || any p (drop k xs))) e (add-one i)
    ∙ ap (λ (rest : List A). found || any p rest) (sym (drop-cons xs i d h))

-- none is left
pub look-done : {A : Type 0} (p : A → Bool) (xs : List A) (i : ℕ) (found : Bool) → length xs ≤ i → found ≡ (found || any p (drop i xs))
unfolding any
look-done {A = A} p xs i found h = sym (or-zero found) ∙ ap (λ (rest : List A). found || any p rest) (sym (drop_of_length-le xs h))
