-- The list of consecutive numbers: its members, lists made from it by `map`, and `any` over it.
use mathlib.Core.Path.{◌≡◌, refl, ap, ap₂, sym, ◌∙◌, subst}
use mathlib.Core.Logic.{inl, inr}
use mathlib.Core.Bool.{Bool, true, false, ◌||◌}
use mathlib.Core.List.{List, [], ◌∷◌, ◌++◌, map}
use Prim.Native.Nat.{ℕ, zero, suc, ◌+◌, ◌-◌, ◌≤◌, ◌<◌}
use native.Mathlib.Numerals.{add-one}
use native.Mathlib.Omega.{arith}
use native.Mathlib.Decide.{ℕ_discrete}
use lib.ListN.{length, get_or, length-map}
use lib.Seq.{ext_get_or}
use Rattle.prelude.proofs.Bools.{or-zero, or_assoc}
use Rattle.prelude.proofs.Lists.{Mem, here, there, mem-cons, any-true, true-any, any_false, false-any, any-ext, any_append}
use Rattle.prelude.specs.Lists.{any, range}

pub range-mem : (k n i : ℕ) → Mem i (range k n) → (k ≤ i) × (i < k + n)
unfolding range
range-mem k zero i m = elim m [ ]
range-mem k (suc n) i m =
    elim (mem-cons m) [ inl e ↦ (omega arith, omega arith) | inr r ↦ let h = range-mem (suc k) n i r in (omega arith, omega arith) ]

pub mem-range : (k n i : ℕ) → k ≤ i → i < k + n → Mem i (range k n)
unfolding range
mem-range k zero i l h = let z : ⊥ = omega arith in absurd z
mem-range k (suc n) i l h = go (ℕ_discrete i k) (λ l. mem-range (suc k) n i l (omega arith))
  where
    go : Dec (i ≡ k) → (suc k ≤ i → Mem i (range (suc k) n)) → Mem i (k ∷ range (suc k) n)
    go (yes e) ih = subst (λ (j : ℕ). Mem j (k ∷ range (suc k) n)) (sym e) here
    go (no f) ih = there (ih (omega arith))

pub length-range : (k n : ℕ) → length (range k n) ≡ n
unfolding range
length-range k zero = refl
length-range k (suc n) = ap suc (length-range (suc k) n)

-- one more at the end
pub range-suc : (k n : ℕ) → range k (suc n) ≡ range k n ++ ((k + n) ∷ [])
unfolding range
range-suc k zero = let e : k ≡ k + 0 = omega arith in ap (λ (j : ℕ). j ∷ []) e
range-suc k (suc n) =
    let e : suc k + n ≡ k + suc n = omega arith in
    ap (λ (r : List ℕ). k ∷ r) (range-suc (suc k) n ∙ ap (λ (j : ℕ). range (suc k) n ++ (j ∷ [])) e)

module _ {A : Type 0} (f : ℕ → A) (d : A) where
  map-range-at : (k n i : ℕ) → i < n → get_or (map f (range k n)) i d ≡ f (k + i)
  unfolding range
  map-range-at k zero i h = let z : ⊥ = omega arith in absurd z
  map-range-at k (suc n) zero h = let e : k ≡ k + 0 = omega arith in ap f e
  map-range-at k (suc n) (suc i) h = let e : suc k + i ≡ k + suc i = omega arith in map-range-at (suc k) n i (omega arith) ∙ ap f e

  pub get_d-map-range : (n i : ℕ) → i < n → get_or (map f (range 0 n)) i d ≡ f i
  get_d-map-range n i h = let e : 0 + i ≡ i = omega arith in map-range-at 0 n i h ∙ ap f e

  -- a list is known by what stands at each place
  pub is-map-range : (n : ℕ) (l : List A) → length l ≡ n → ((i : ℕ) → i < n → get_or l i d ≡ f i) → l ≡ map f (range 0 n)
  is-map-range n l e h =
      ext_get_or d l (map f (range 0 n)) (e ∙ sym (length-map-range n))
      (λ i k. let j : i < n = omega (arith, e) in h i j ∙ sym (get_d-map-range n i j))
    where
      length-map-range : (n : ℕ) → length (map f (range 0 n)) ≡ n
      length-map-range n = length-map (range 0 n) f ∙ length-range 0 n

pub length-map-range : {A : Type 0} (f : ℕ → A) (n : ℕ) → length (map f (range 0 n)) ≡ n
length-map-range f n = length-map (range 0 n) f ∙ length-range 0 n

-- ---- a test over the indices below n

pub any_below : (p : ℕ → Bool) (n : ℕ) → any p (range 0 n) ≡ true → (i : ℕ) × (i < n) × (p i ≡ true)
any_below p n e = let r = any-true p (range 0 n) e in (r.0, (let h = range-mem 0 n r.0 r.1 in omega arith), r.2)

pub below-any : (p : ℕ → Bool) (n i : ℕ) → i < n → p i ≡ true → any p (range 0 n) ≡ true
below-any p n i h e = true-any p (range 0 n) i (mem-range 0 n i (omega arith) (omega arith)) e

pub none_below : (p : ℕ → Bool) (n : ℕ) → any p (range 0 n) ≡ false → (i : ℕ) → i < n → p i ≡ false
none_below p n e i h = any_false p (range 0 n) e i (mem-range 0 n i (omega arith) (omega arith))

pub below_none : (p : ℕ → Bool) (n : ℕ) → ((i : ℕ) → i < n → p i ≡ false) → any p (range 0 n) ≡ false
below_none p n h = false-any p (range 0 n) (λ i m. h i (let r = range-mem 0 n i m in omega arith))

-- ---- a test over a range: the empty one, one more, two after one another

pub any-run-none : (p : ℕ → Bool) (k n : ℕ) → n ≡ 0 → any p (range k n) ≡ false
unfolding any range
any-run-none p k n e = ap (λ (m : ℕ). any p (range k m)) e

pub any-run-more : (p : ℕ → Bool) (k n : ℕ) → any p (range k (suc n)) ≡ any p (range k n) || p (k + n)
unfolding any
any-run-more p k n =
    ap (any p) (range-suc k n) ∙ any_append p (range k n) ((k + n) ∷ []) ∙ ap (λ (t : Bool). any p (range k n) || t) (or-zero (p (k + n)))

pub any_runs : (p : ℕ → Bool) (k m n : ℕ) → any p (range k (m + n)) ≡ any p (range k m) || any p (range (k + m) n)
unfolding any range
any_runs p k zero n = let e : k + 0 ≡ k = omega arith in let f : 0 + n ≡ n = omega arith in cc
any_runs p k (suc m) n =
    let e : suc m + n ≡ suc (m + n) = omega arith in
    let f : suc k + m ≡ k + suc m = omega arith in
    ap (λ (j : ℕ). any p (range k j)) e
    ∙ ap (λ (t : Bool). p k || t) (any_runs p (suc k) m n ∙ ap (λ (j : ℕ). any p (range (suc k) m) || any p (range j n)) f)
    ∙ sym (or_assoc (p k) (any p (range (suc k) m)) (any p (range (k + suc m) n)))

pub any-run-ext : (p q : ℕ → Bool) (k n : ℕ) → ((i : ℕ) → k ≤ i → i < k + n → p i ≡ q i) → any p (range k n) ≡ any q (range k n)
any-run-ext p q k n h = any-ext p q (range k n) (λ i m. let r = range-mem k n i m in h i r.0 r.1)

pub any-run-one : (p : ℕ → Bool) (k : ℕ) → any p (range k 1) ≡ p k
unfolding any range
any-run-one p k = or-zero (p k)

pub any-run-none-of : (p : ℕ → Bool) (k n : ℕ) → ((i : ℕ) → k ≤ i → i < k + n → p i ≡ false) → any p (range k n) ≡ false
any-run-none-of p k n h = false-any p (range k n) (λ i m. let r = range-mem k n i m in h i r.0 r.1)

-- three tests in one scan are three scans
pub any-or : (p q : ℕ → Bool) (xs : List ℕ) → any (λ i. p i || q i) xs ≡ any p xs || any q xs
unfolding any
any-or p q [] = refl
any-or p q (x ∷ xs) = ap (λ (t : Bool). (p x || q x) || t) (any-or p q xs) ∙ swapped (p x) (q x) (any p xs) (any q xs)
  where
    swapped : (a b c d : Bool) → (a || b) || (c || d) ≡ (a || c) || (b || d)
    swapped true b c d = refl
    swapped false true true d = refl
    swapped false true false d = refl
    swapped false false c d = refl

-- ---- a scan, from what it has found so far

pub scan-more :
    (p : ℕ → Bool) (k i : ℕ) (bad t : Bool)
    → k ≤ i
    → bad ≡ any p (range k (i - k))
    → t ≡ p i
    → bad || t ≡ any p (range k (i + 1 - k))
scan-more p k i bad t h e f =
    let j : k + (i - k) ≡ i = omega arith in
    let l : suc (i - k) ≡ i + 1 - k = omega arith in
    ap₂ ◌||◌ e (f ∙ ap p (sym j)) ∙ sym (any-run-more p k (i - k)) ∙ ap (λ (m : ℕ). any p (range k m)) l

pub scan-next : (p : ℕ → Bool) (i : ℕ) (bad t : Bool) → bad ≡ any p (range 0 i) → t ≡ p i → bad || t ≡ any p (range 0 (i + 1))
scan-next p i bad t e f =
    let j : 0 + i ≡ i = omega arith in
    ap₂ ◌||◌ e (f ∙ ap p (sym j)) ∙ sym (any-run-more p 0 i) ∙ ap (λ (m : ℕ). any p (range 0 m)) (sym (add-one i))

pub scan-join :
    (p : ℕ → Bool) (k m n k' l : ℕ) (bad t : Bool)
    → bad ≡ any p (range k m)
    → t ≡ any p (range k' n)
    → k' ≡ k + m
    → l ≡ m + n
    → bad || t ≡ any p (range k l)
scan-join p k m n k' l bad t e f g h =
    ap₂ ◌||◌ e (f ∙ ap (λ (j : ℕ). any p (range j n)) g) ∙ sym (any_runs p k m n) ∙ ap (λ (j : ℕ). any p (range k j)) (sym h)
