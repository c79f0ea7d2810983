-- Pushes one after the other: of a run, of a patch; and a run of which none is left to take.
use mathlib.Core.Path.{◌≡◌, refl, sym, ap, ◌∙◌, subst}
use mathlib.Core.Bool.{Bool, ◌||◌}
use mathlib.Core.List.{List, [], ◌∷◌, ◌++◌, flat_map}
use Prim.Native.Nat.{ℕ, zero, suc, ◌+◌, ◌-◌, ◌*◌, ◌%◌, ◌≤◌, ◌<◌, max}
use native.Mathlib.Omega.{arith}
use lib.Bits.{bit_or, or_step}
use lib.Dec.{eqb}
use lib.ListN.{length, get_or}
use borrow.Author.Tests.{eqb-false}
use Rattle.prelude.specs.Lists.{any, range}
use Rattle.prelude.proofs.Lists.{any_false}
use Rattle.loops.specs.Joined.{BitTest, Joined}
use Rattle.pushing.specs.Push.{Fill, push_all, Ready}
use Rattle.pushing.proofs.Pushes.{all-ready, all-length, all_append, all_none}

-- ---- one after the other: `left` is still to be pushed of all

pub record Pushing (all : List ℕ) (f₀ f : Fill) (left : List ℕ) : Type 0 where
  pub ready : Ready f
  pub len : length f.labels ≡ length f₀.labels
  pub rest : push_all left f ≡ push_all all f₀

module _ (all : List ℕ) (f₀ : Fill) where
  pub pushing-start : (left : List ℕ) → left ≡ all → Ready f₀ → Pushing all f₀ f₀ left
  pushing-start left e r = record { ready = r; len = refl; rest = ap (λ (l : List ℕ). push_all l f₀) e }

  pub pushing-more : (f g : Fill) (left js after : List ℕ) → left ≡ js ++ after → Pushing all f₀ f left → g ≡ push_all js f → Pushing all f₀ g after
  pushing-more f g left js after q P e =
      record {
        ready = subst Ready (sym e) (all-ready js f P.ready);
        len = ap (λ (x : Fill). length x.labels) e ∙ all-length js f ∙ P.len;
        rest = ap (push_all after) e ∙ sym (all_append js after f) ∙ ap (λ (l : List ℕ). push_all l f) (sym q) ∙ P.rest;
      }

  pub pushing-done : (f : Fill) (left : List ℕ) → left ≡ [] → Pushing all f₀ f left → f ≡ push_all all f₀
  unfolding push_all
  pushing-done f left q P = ap (λ (l : List ℕ). push_all l f) (sym q) ∙ P.rest

-- the first of a range
pub range-next : (x y n m : ℕ) → y ≡ x + 1 → n ≡ m + 1 → range x n ≡ x ∷ range y m
unfolding range
range-next x y n m e h =
    let more : n ≡ suc m = omega arith in
    let next : suc x ≡ y = omega arith in
    ap (range x) more ∙ ap (λ (i : ℕ). x ∷ range i m) next

pub run_none : (first n : ℕ) → n ≡ 0 → range first n ≡ []
unfolding range
run_none first n e = ap (range first) e

-- the rows of a patch from r on
module _ (wide rows step first : ℕ) where
  abbrev pub rows_from : ℕ → List ℕ
  rows_from r = flat_map (λ i. range (first + i * step) wide) (range r (rows - r))

  pub rows_next : (r : ℕ) → r < rows → rows_from r ≡ range (first + r * step) wide ++ rows_from (r + 1)
  unfolding flat_map
  rows_next r h = ap (flat_map (λ i. range (first + i * step) wide)) (range-next r (r + 1) (rows - r) (rows - (r + 1)) (omega arith) (omega arith))

  pub rows_none : (r : ℕ) → rows ≤ r → rows_from r ≡ []
  unfolding flat_map
  rows_none r h = ap (flat_map (λ i. range (first + i * step) wide)) (run_none r (rows - r) (let e : rows - r ≡ 0 = omega arith in e))

-- ---- one look: where labels joined are even, none is 1

odd-test : BitTest (λ x. eqb (x % 2) 1)
odd-test =
    record {
      none = refl;
      either = λ x y.
          let e : bit_or x y % 2 ≡ max (x % 2) (y % 2) = omega (arith, or_step x y) in
          ap (λ (n : ℕ). eqb n 1) e ∙ either (x % 2) (y % 2) (omega arith) (omega arith);
    }
  where
    either : (a b : ℕ) → a < 2 → b < 2 → eqb (max a b) 1 ≡ eqb a 1 || eqb b 1
    either zero zero h k = refl
    either zero (suc zero) h k = refl
    either (suc zero) zero h k = refl
    either (suc zero) (suc zero) h k = refl
    either (suc (suc a)) b h k = let z : ⊥ = omega arith in absurd z
    either zero (suc (suc b)) h k = let z : ⊥ = omega arith in absurd z
    either (suc zero) (suc (suc b)) h k = let z : ⊥ = omega arith in absurd z

pub run-taken : (f : Fill) (first wide all : ℕ) → Joined f.labels first (first + wide) all → all % 2 ≡ 0 → push_all (range first wide) f ≡ f
run-taken f first wide all J e =
    let odd-at : ℕ → Bool = λ i. eqb (get_or f.labels i 0 % 2) 1 in
    let n : wide ≡ first + wide - first = omega arith in
    let even = ap (λ (n : ℕ). any odd-at (range first n)) n ∙ sym (J.each (λ x. eqb (x % 2) 1) odd-test) ∙ ap (λ (r : ℕ). eqb r 1) e in
    all_none (range first wide) f (λ j m one. eqb-false _ _ (any_false odd-at (range first wide) even j m) (ap (λ (x : ℕ). x % 2) one))
