-- How many elements of a list pass a test.
use mathlib.Core.Path.{◌≡◌, refl, sym, ap, ◌∙◌, subst}
use mathlib.Core.Logic.{⊎_elim}
use mathlib.Core.Bool.{Bool, true, false}
use mathlib.Core.List.{List, [], ◌∷◌}
use Prim.Native.Nat.{ℕ, zero, suc, ◌+◌, ◌≤◌, ◌<◌}
use native.Mathlib.Omega.{arith}
use lib.Dec.{eqb}
use lib.ListN.{length, get_or, set, length-set}
use lib.Seq.{get_or-set_same, get_or-set_other}
use borrow.Author.Tests.{eq-eqb, ne_eqb, eqb-true, eqb-false}
use Rattle.cells.specs.Groups.{cons_if, filter}
use Rattle.prelude.proofs.Bools.{two}
use Rattle.prelude.proofs.Lists.{Mem, here, there}
use Rattle.rules.specs.Grid.{range}
use Rattle.prelude.proofs.Ranges.{range-mem, length-range}
use Rattle.pushing.specs.Push.{labelled, untaken}

-- one of p and q holds where r does, and neither where it does not
pub data Parts : Bool → Bool → Bool → Type 0 where
  left : Parts true false true
  right : Parts false true true
  none : Parts false false false

pub count-parts : (p q r : ℕ → Bool) (xs : List ℕ) → ((x : ℕ) → Mem x xs → Parts (p x) (q x) (r x))
    → length (filter p xs) + length (filter q xs) ≡ length (filter r xs)
unfolding filter
count-parts p q r [] h = refl
count-parts p q r (x ∷ xs) h = go (p x) (q x) (r x) (h x here) (count-parts p q r xs (λ y m. h y (there m)))
  where
    go : (a b c : Bool) → Parts a b c → length (filter p xs) + length (filter q xs) ≡ length (filter r xs)
        → length (cons_if a x (filter p xs)) + length (cons_if b x (filter q xs)) ≡ length (cons_if c x (filter r xs))
    go a b c left e = omega arith
    go a b c right e = omega arith
    go a b c none e = e

pub count-le : (p : ℕ → Bool) (xs : List ℕ) → length (filter p xs) ≤ length xs
unfolding filter
count-le p [] = omega arith
count-le p (x ∷ xs) = go (p x) (count-le p xs)
  where
    go : (a : Bool) → length (filter p xs) ≤ length xs → length (cons_if a x (filter p xs)) ≤ suc (length xs)
    go true e = omega arith
    go false e = omega arith

pub mem-some : {x : ℕ} {xs : List ℕ} → Mem x xs → 0 < length xs
mem-some here = omega arith
mem-some (there m) = omega arith

-- ---- one index alone

count_none : (p : ℕ → Bool) (xs : List ℕ) → ((x : ℕ) → Mem x xs → p x ≡ false) → length (filter p xs) ≡ 0
unfolding filter
count_none p [] h = refl
count_none p (x ∷ xs) h = ap (λ (t : Bool). length (cons_if t x (filter p xs))) (h x here) ∙ count_none p xs (λ y m. h y (there m))

count-one : (j k n : ℕ) → k ≤ j → j < k + n → length (filter (eqb j) (range k n)) ≡ 1
unfolding filter range
count-one j k zero l h = let z : ⊥ = omega arith in absurd z
count-one j k (suc n) l h = ⊎_elim hit (λ e. miss e (count-one j (suc k) n (let a = eqb-false j k e in omega arith) (omega arith))) (two (eqb j k))
  where
    hit : eqb j k ≡ true → length (cons_if (eqb j k) k (filter (eqb j) (range (suc k) n))) ≡ 1
    hit e =
        ap (λ (t : Bool). length (cons_if t k (filter (eqb j) (range (suc k) n)))) e
        ∙ ap suc
        (count_none (eqb j) (range (suc k) n)
        (λ x m. ne_eqb j x (λ q. let b = range-mem (suc k) n x m in let a = eqb-true j k e in let z : ⊥ = omega arith in z)))

    miss : eqb j k ≡ false → length (filter (eqb j) (range (suc k) n)) ≡ 1 → length (cons_if (eqb j k) k (filter (eqb j) (range (suc k) n))) ≡ 1
    miss e r = ap (λ (t : Bool). length (cons_if t k (filter (eqb j) (range (suc k) n)))) e ∙ r

-- ---- labels

pub count-labels : (l : List ℕ) → untaken l ≤ length l
unfolding untaken
count-labels l = let h = count-le (labelled 1 l) (range 0 (length l)) in let e = length-range 0 (length l) in omega arith

-- a voxel that is taken is one less
pub count_set : (j : ℕ) (l : List ℕ) → j < length l → get_or l j 0 ≡ 1 → untaken l ≡ suc (untaken (set l j 2))
unfolding untaken
count_set j l h e =
    let s = length-set l j 2 in
    let one = count-one j 0 (length l) (omega arith) (omega arith) in
    let sum = count-parts (eqb j) (labelled 1 (set l j 2)) (labelled 1 l) (range 0 (length l)) (λ k m. at k) in
    let same = ap (λ (w : ℕ). length (filter (labelled 1 (set l j 2)) (range 0 w))) s in
    omega arith
  where
    at : (k : ℕ) → Parts (eqb j k) (labelled 1 (set l j 2) k) (labelled 1 l k)
    at k = ⊎_elim hit miss (two (eqb j k))
      where
        hit : eqb j k ≡ true → Parts (eqb j k) (labelled 1 (set l j 2) k) (labelled 1 l k)
        hit q =
            let a = eqb-true j k q in
            let new : get_or (set l j 2) k 0 ≡ 2 = subst (λ (i : ℕ). get_or (set l j 2) i 0 ≡ 2) a (get_or-set_same l j 2 0 h) in
            let was : get_or l k 0 ≡ 1 = subst (λ (i : ℕ). get_or l i 0 ≡ 1) a e in
            rw (q, ne_eqb (get_or (set l j 2) k 0) 1 (λ z. let b : ⊥ = omega arith in b), eq-eqb (get_or l k 0) 1 was) left

        miss : eqb j k ≡ false → Parts (eqb j k) (labelled 1 (set l j 2) k) (labelled 1 l k)
        miss q =
            let a = eqb-false j k q in
            let keep : get_or (set l j 2) k 0 ≡ get_or l k 0 = get_or-set_other l j k 2 0 (λ z. a (sym z)) in
            rw (q, keep) (either (labelled 1 l k))
          where
            either : (t : Bool) → Parts false t t
            either true = right
            either false = none
