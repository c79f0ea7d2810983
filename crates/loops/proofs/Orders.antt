-- Numbers in order, and a loop that stores one element after the other.
use mathlib.Core.Path.{◌≡◌, refl, ◌∙◌}
use mathlib.Core.Logic.{◌⊎◌, inl, inr, ⊎_elim}
use mathlib.Core.List.{List, [], ◌∷◌}
use Prim.Native.Nat.{ℕ, zero, suc, ◌+◌, ◌*◌, ◌≤◌, ◌<◌}
use native.Mathlib.Omega.{arith}
use native.Mathlib.Nat.{mul-le-mul_right, suc-mul}
use borrow.Author.Count.{below_more}
use borrow.Author.Tests.{leb-true, leb-false}
use lib.Dec.{leb}
use lib.ListN.{length, get_or, set}
use lib.Seq.{get_or-set_same, get_or-set_other}
use Rattle.prelude.proofs.Bools.{two}
use Rattle.loops.specs.Searches.{Absent}

pub split : (x y : ℕ) → (x ≤ y) ⊎ (y < x)
split x y = ⊎_elim (λ e. inl (leb-true x y e)) (λ e. inr (leb-false x y e)) (two (leb x y))

-- of two multiples
pub times-next : (a b w : ℕ) → a < b → a * w + w ≤ b * w
times-next a b w h = let m = mul-le-mul_right w (let l : suc a ≤ b = omega arith in l) in let e = suc-mul a w in omega arith

-- a loop that stores f i at i, for i from 0 up
pub store-more : {A : Type 0} (f : ℕ → A) (l : List A) (i : ℕ) (v d : A) → i < length l → v ≡ f i → ((k : ℕ) → k < i → get_or l k d ≡ f k)
    → (k : ℕ) → k < i + 1 → get_or (set l i v) k d ≡ f k
store-more f l i v d h e all =
    below_more (λ k. get_or (set l i v) k d ≡ f k) i
    (λ k lt. get_or-set_other l i k v d (λ q. let z : ⊥ = omega arith in z) ∙ all k lt)
    (get_or-set_same l i v d h ∙ e)

-- within a list the default does not matter
pub get_d-within : {A : Type 0} (l : List A) (i : ℕ) (d e : A) → i < length l → get_or l i d ≡ get_or l i e
get_d-within [] i d e h = let z : ⊥ = omega arith in absurd z
get_d-within (x ∷ l) zero d e h = refl
get_d-within (x ∷ l) (suc i) d e h = get_d-within l i d e (omega arith)

-- ---- a search

module _ (l : List ℕ) {v low high : ℕ} where
  pub absent-join : (i : ℕ) → Absent l v low i → Absent l v i high → Absent l v low high
  absent-join i before after k f h e = ⊎_elim (λ q. after k q h e) (λ q. before k f q e) (split i k)
