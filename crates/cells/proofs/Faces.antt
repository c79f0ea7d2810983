-- The lowest numbered bare face is bare, and every lower numbered one is touched; other faces are not it.
use mathlib.Core.Path.{◌≡◌, refl, ap, sym, ◌∙◌, subst}
use mathlib.Core.Bool.{Bool, true, false, not, cond}
use mathlib.Core.List.{List, [], ◌∷◌}
use Prim.Native.Nat.{ℕ, zero, suc, ◌≤◌, ◌<◌}
use native.Mathlib.Omega.{arith}
use lib.Dec.{eqb}
use lib.ListN.{length, get_or}
use borrow.Author.Tests.{eq-eqb, eqb-true}
use Rattle.prelude.proofs.Bools.{not-true, not-false, or-zero, both_ways}
use Rattle.prelude.proofs.Lists.{Mem, here, there, any-true, true-any, filter-mem, mem-filter, any_false}
use Rattle.cells.specs.Groups.{any, filter}
use Rattle.cells.specs.Groups.{reached, others, enter, gather, groups}
use Rattle.cells.specs.Cells.{contains, joined, positions, touched, group_count, dimension, count_of, numbered_faces, before, test_of, test, passes}
use Rattle.cells.specs.Faces.{face_at, LowestBare, FaceIsLowest, FaceIsAcross, WrongFaces}

-- ---- the first of a list that passes

record Before (p : ℕ → Bool) (cs : List ℕ) (n : ℕ) : Type 0 where
  few : n ≤ length cs
  found : n < length cs → p (get_or cs n 13) ≡ true
  earlier : (l : ℕ) → l < n → p (get_or cs l 13) ≡ false

before-is : (p : ℕ → Bool) (cs : List ℕ) → Before p cs (before p cs)
unfolding before
before-is p [] = record { few = omega arith; found = λ h. let z : ⊥ = omega arith in absurd z; earlier = λ l h. let z : ⊥ = omega arith in absurd z }
before-is p (c ∷ cs) = go (p c) refl (before-is p cs)
  where
    go : (t : Bool) → p c ≡ t → Before p cs (before p cs) → Before p (c ∷ cs) (cond t 0 (suc (before p cs)))
    go true e b = record { few = omega arith; found = λ h. e; earlier = λ l h. let z : ⊥ = omega arith in absurd z }
    go false e b = record { few = omega (arith, b.few); found = λ h. b.found (omega arith); earlier = early }
      where
        early : (l : ℕ) → l < suc (before p cs) → p (get_or (c ∷ cs) l 13) ≡ false
        early zero h = e
        early (suc l) h = b.earlier l (omega arith)

pub before-ext : (p q : ℕ → Bool) (cs : List ℕ) → ((c : ℕ) → Mem c cs → p c ≡ q c) → before p cs ≡ before q cs
unfolding before
before-ext p q [] h = refl
before-ext p q (c ∷ cs) h = go (p c) (q c) (h c here) (before-ext p q cs (λ d m. h d (there m)))
  where
    go : (t u : Bool) → t ≡ u → before p cs ≡ before q cs → cond t 0 (suc (before p cs)) ≡ cond u 0 (suc (before q cs))
    go true u e r = ap (λ (v : Bool). cond v 0 (suc (before q cs))) e
    go false u e r = ap suc r ∙ ap (λ (v : Bool). cond v 0 (suc (before q cs))) e

-- ---- the bare cells

numbered-place : (c : ℕ) → Mem c numbered_faces → Mem c positions
unfolding any
numbered-place c m =
    let r = any-true (eqb c) positions (not-false (any (eqb c) positions) (any_false (λ c. not (any (eqb c) positions)) numbered_faces refl c m)) in
    subst (λ (x : ℕ). Mem x positions) (sym (eqb-true c r.0 r.2)) r.1

module _ (kept : ℕ → Bool) where
  abbrev bare : ℕ → Bool
  bare c = not (touched kept c)

  listed-bare : (c : ℕ) → Mem c positions → any (eqb c) (filter bare positions) ≡ bare c
  listed-bare c m =
      both_ways (any (eqb c) (filter bare positions)) (bare c)
      (λ e. let r = any-true (eqb c) (filter bare positions) e in
      ap bare (eqb-true c r.0 r.2) ∙ (filter-mem bare positions r.0 r.1).1)
      (λ e. true-any (eqb c) (filter bare positions) c (mem-filter bare positions c m e) (eq-eqb c c refl))

  pub face-before : (test kept).face ≡ before bare numbered_faces
  unfolding test test_of
  face-before = before-ext (λ c. any (eqb c) (filter bare positions)) bare numbered_faces (λ c m. listed-bare c (numbered-place c m))

pub face-is-lowest : FaceIsLowest
face-is-lowest kept =
    let b = before-is (bare kept) numbered_faces in
    subst (LowestBare kept) (sym (face-before kept))
    (record {
      few = b.few;
      bare = λ h. not-true (touched kept (face_at (before (bare kept) numbered_faces))) (b.found h);
      lower = λ l h. not-false (touched kept (face_at l)) (b.earlier l h);
    })

-- ---- the neighbour across a face is the one that touches it

pub face-is-across : FaceIsAcross
unfolding touched any contains
face-is-across kept zero h = or-zero (kept 12)
face-is-across kept (suc zero) h = or-zero (kept 14)
face-is-across kept (suc (suc zero)) h = or-zero (kept 10)
face-is-across kept (suc (suc (suc zero))) h = or-zero (kept 16)
face-is-across kept (suc (suc (suc (suc zero)))) h = or-zero (kept 4)
face-is-across kept (suc (suc (suc (suc (suc zero))))) h = or-zero (kept 22)
face-is-across kept (suc (suc (suc (suc (suc (suc n)))))) h = let z : ⊥ = omega arith in absurd z

-- ---- wrong faces, each on one block

pub wrong-faces : WrongFaces
unfolding any filter reached others enter gather groups contains joined touched group_count dimension count_of before test_of test passes
wrong-faces =
    record {
      high-before-low = λ h. let e : ◌≡◌ {A = ℕ} 0 1 = h (λ p. not (eqb p 12)) in omega arith;
      z-before-x = λ h. let e : ◌≡◌ {A = ℕ} 0 4 = h (λ p. not (eqb p 12)) in omega arith;
      by_place = λ h. let e : ◌≡◌ {A = ℕ} 0 2 = h (λ p. not (eqb p 12)) in omega arith;
      touched-faces = λ h. let e : ◌≡◌ {A = ℕ} 0 6 = h (λ p. false) in omega arith;
      six-for-passing = λ h. let e : ◌≡◌ {A = ℕ} 0 6 = h (λ p. not (eqb p 12)) refl in omega arith;
    }
