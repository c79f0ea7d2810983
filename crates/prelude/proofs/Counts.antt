-- How many elements of a list pass a test, and how many numbers below an index, one by one.
use mathlib.Core.Path.{◌≡◌, refl, ap, ◌∙◌}
use mathlib.Core.Bool.{Bool, true, false, cond}
use mathlib.Core.List.{List, [], ◌∷◌, ◌++◌}
use Prim.Native.Nat.{ℕ, ◌+◌}
use native.Mathlib.Omega.{arith}
use native.Mathlib.Numerals.{add-one}
use lib.ListN.{length, length-append}
use Rattle.prelude.specs.Lists.{cons_if, filter, range}
use Rattle.prelude.proofs.Lists.{filter-append}
use Rattle.prelude.proofs.Ranges.{range-suc}

pub length-filter : {A : Type 0} (p : A → Bool) (x : A) (xs : List A) → length (filter p (x ∷ xs)) ≡ cond (p x) 1 0 + length (filter p xs)
unfolding filter
length-filter p x xs = go (p x)
  where
    go : (t : Bool) → length (cons_if t x (filter p xs)) ≡ cond t 1 0 + length (filter p xs)
    go true = omega arith
    go false = omega arith

module _ (p : ℕ → Bool) where
  abbrev pub counted : ℕ → ℕ
  counted n = length (filter p (range 0 n))

  pub counted_none : counted 0 ≡ 0
  unfolding range filter
  counted_none = refl

  pub counted-more : (i : ℕ) → counted (i + 1) ≡ counted i + cond (p i) 1 0
  counted-more i =
      ap counted (add-one i)
      ∙ ap (λ (l : List ℕ). length (filter p l)) (range-suc 0 i ∙ ap (λ (k : ℕ). range 0 i ++ (k ∷ [])) (omega arith))
      ∙ ap length (filter-append p (range 0 i) (i ∷ []))
      ∙ length-append (filter p (range 0 i)) (filter p (i ∷ []))
      ∙ ap (λ (n : ℕ). counted i + n) one
    where
      one : length (filter p (i ∷ [])) ≡ cond (p i) 1 0
      one = unfold filter in omega (arith, length-filter p i [])
