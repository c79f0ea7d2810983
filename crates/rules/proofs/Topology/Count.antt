-- How many voxels pass a test.
use mathlib.Core.Path.{◌≡◌, refl, ap}
use mathlib.Core.Logic.{inl, inr}
use mathlib.Core.Bool.{Bool, true, false, ◌||◌}
use mathlib.Core.List.{List, [], ◌∷◌}
use Prim.Native.Nat.{ℕ, zero, suc, ◌+◌, ◌≤◌, ◌<◌}
use native.Mathlib.Omega.{arith}
use native.Mathlib.Decide.{ℕ_discrete}
use lib.Dec.{eqb}
use lib.ListN.{length}
use borrow.Author.Tests.{eq-eqb, ne_eqb}
use Rattle.cells.specs.Groups.{any, filter}
use Rattle.cells.specs.Cells.{bit}
use Rattle.prelude.proofs.Bools.{true-or}
use Rattle.prelude.proofs.Lists.{Mem, here, there, filter-ext}
use Rattle.prelude.proofs.Counts.{length-filter}
use Rattle.rules.specs.declared.Sides.{Sides}
use Rattle.rules.specs.Grid.{size, range, voxels}
use Rattle.rules.specs.Meaning.{found}
use Rattle.prelude.proofs.Ranges.{range-mem, mem-range, length-range}
use Rattle.rules.proofs.Topology.Surface.{omit, omit-true}
use Rattle.rules.proofs.Topology.Removal.{omit-self, omit-split}

count_in : (ℕ → Bool) → List ℕ → ℕ
count_in p l = length (filter p l)

count-cons : (p : ℕ → Bool) (x : ℕ) (l : List ℕ) → count_in p (x ∷ l) ≡ bit (p x) + count_in p l
unfolding count_in
count-cons p x l = length-filter p x l

count-nil : (p : ℕ → Bool) → count_in p [] ≡ 0
unfolding count_in filter
count-nil p = refl

bit-mono : (t u : Bool) → (t ≡ true → u ≡ true) → bit t ≤ bit u
bit-mono true u h = rw (h refl) (omega arith)
bit-mono false u h = omega arith

bit_or : (t u : Bool) → bit (t || u) ≤ bit t + bit u
bit_or true u = omega arith
bit_or false u = omega arith

mono-in : (p q : ℕ → Bool) (l : List ℕ) → ((j : ℕ) → p j ≡ true → q j ≡ true) → count_in p l ≤ count_in q l
mono-in p q [] h = omega (arith, count-nil p)
mono-in p q (x ∷ l) h = omega (arith, count-cons p x l, count-cons q x l, bit-mono (p x) (q x) (h x), mono-in p q l h)

or-in : (p q : ℕ → Bool) (l : List ℕ) → count_in (λ j. p j || q j) l ≤ count_in p l + count_in q l
or-in p q [] = omega (arith, count-nil (λ j. p j || q j))
or-in p q (x ∷ l) = omega (arith, count-cons (λ j. p j || q j) x l, count-cons p x l, count-cons q x l, bit_or (p x) (q x), or-in p q l)

all_in : (p : ℕ → Bool) (l : List ℕ) → count_in p l ≤ length l
all_in p [] = omega (arith, count-nil p)
all_in p (x ∷ l) = go (p x) (count-cons p x l) (all_in p l)
  where
    go : (t : Bool) → count_in p (x ∷ l) ≡ bit t + count_in p l → count_in p l ≤ length l → count_in p (x ∷ l) ≤ suc (length l)
    go true e h = omega arith
    go false e h = omega arith

none_in : (l : List ℕ) → count_in (λ j. false) l ≡ 0
none_in [] = count-nil (λ j. false)
none_in (x ∷ l) = omega (arith, count-cons (λ j. false) x l, none_in l)

-- one voxel
at-range : (x k n : ℕ) → (count_in (λ j. eqb j x) (range k n) ≤ 1) × (x < k → count_in (λ j. eqb j x) (range k n) ≡ 0)
unfolding range
at-range x k zero = (omega (arith, count-nil (λ j. eqb j x)), λ h. count-nil (λ j. eqb j x))
at-range x k (suc n) = go (ℕ_discrete k x) (at-range x (suc k) n)
  where
    go : Dec (k ≡ x) → (count_in (λ j. eqb j x) (range (suc k) n) ≤ 1) × (x < suc k → count_in (λ j. eqb j x) (range (suc k) n) ≡ 0)
        → (count_in (λ j. eqb j x) (k ∷ range (suc k) n) ≤ 1) × (x < k → count_in (λ j. eqb j x) (k ∷ range (suc k) n) ≡ 0)
    go (yes e) ih =
        let z : count_in (λ j. eqb j x) (range (suc k) n) ≡ 0 = ih.1 (omega arith) in
        (omega (arith, count-cons (λ j. eqb j x) k (range (suc k) n), ap (λ (t : Bool). bit t) (eq-eqb k x e)), λ h. let f : ⊥ = omega arith in absurd f)
    go (no f) ih =
        let z : bit (eqb k x) ≡ 0 = ap (λ (t : Bool). bit t) (ne_eqb k x f) in
        let c = count-cons (λ j. eqb j x) k (range (suc k) n) in
        (omega (arith, ih.0), λ h. omega (arith, ih.1 (omega arith)))

omit-in : (p : ℕ → Bool) (i : ℕ) (l : List ℕ) → Mem i l → p i ≡ true → suc (count_in (omit p i) l) ≤ count_in p l
omit-in p i [] x'' e = elim x'' [ ]
omit-in p i (x ∷ l) here e =
    omega (
      arith,
      count-cons (omit p i) i l,
      count-cons p i l,
      ap (λ (t : Bool). bit t) (omit-self p i),
      ap (λ (t : Bool). bit t) e,
      mono-in (omit p i) p l (λ j h. (omit-true p i j h).0),
    )
omit-in p i (x ∷ l) (there m) e =
    omega (arith, count-cons (omit p i) x l, count-cons p x l, bit-mono (omit p i x) (p x) (λ h. (omit-true p i x h).0), omit-in p i l m e)

-- ---- over the grid

module _ (s : Sides) where
  pub found-mono : (p q : ℕ → Bool) → ((j : ℕ) → p j ≡ true → q j ≡ true) → found s p ≤ found s q
  unfolding count_in
  found-mono p q h = mono-in p q (voxels s) h

  pub found-or : (p q : ℕ → Bool) → found s (λ j. p j || q j) ≤ found s p + found s q
  unfolding count_in
  found-or p q = or-in p q (voxels s)

  -- at most as many as a list has
  pub found-list : (xs : List ℕ) → found s (λ j. any (eqb j) xs) ≤ length xs
  unfolding any count_in voxels
  found-list [] = omega (arith, none_in (voxels s))
  found-list (x ∷ xs) = omega (arith, or-in (λ j. eqb j x) (λ j. any (eqb j) xs) (voxels s), (at-range x 0 (size s)).0, found-list xs)

  -- one voxel fewer
  pub found-omit : (p : ℕ → Bool) (i : ℕ) → i < size s → p i ≡ true → suc (found s (omit p i)) ≡ found s p
  unfolding count_in voxels any
  found-omit p i h e =
      omega (
        arith,
        omit-in p i (voxels s) (mem-range 0 (size s) i (omega arith) (omega arith)) e,
        found-or (omit p i) (λ j. any (eqb j) (i ∷ [])),
        found-list (i ∷ []),
        found-mono p (λ j. omit p i j || any (eqb j) (i ∷ [])) among,
      )
    where
      among : (j : ℕ) → p j ≡ true → (omit p i j || any (eqb j) (i ∷ [])) ≡ true
      among j e =
          true-or (omit p i j) (any (eqb j) (i ∷ []))
          (elim (omit-split p i j e) [ inl q ↦ inr (unfold any in ap (λ (t : Bool). t || false) (eq-eqb j i q)) | inr o ↦ inl o ])

  -- tests that agree on the grid
  pub found-same : (p q : ℕ → Bool) → ((j : ℕ) → j < size s → p j ≡ q j) → found s p ≡ found s q
  unfolding voxels
  found-same p q h = ap length (filter-ext p q (range 0 (size s)) (λ j m. h j (omega (arith, (range-mem 0 (size s) j m).1))))

  -- at most all voxels
  pub found_all : (p : ℕ → Bool) → found s p ≤ size s
  unfolding count_in voxels
  found_all p = omega (arith, all_in p (voxels s), length-range 0 (size s))
