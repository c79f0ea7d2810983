-- What holds for every block: Euler's formula on the cube's surface, the groups of touched cells by the rank of the touched edges, and a
-- bare face where any cell is bare.
use mathlib.Core.Path.{◌≡◌, refl, ap, ap₂, sym, ◌∙◌, subst, fun_ext}
use mathlib.Core.Logic.{inl, inr}
use mathlib.Core.Bool.{Bool, true, false, not, ◌&&◌}
use mathlib.Core.List.{List, [], ◌∷◌}
use Prim.Native.Nat.{ℕ, ◌+◌, ◌/◌, ◌%◌, ◌≤◌, ◌<◌}
use native.Mathlib.Omega.{arith}
use native.Mathlib.Decide.{dec_lt}
use lib.Dec.{eqb, ltb}
use lib.ListN.{length}
use borrow.Author.Tests.{ltb-true, eqb-true}
use Rattle.cells.specs.Groups.{any, filter, gather, groups}
use Rattle.cells.specs.Cells.{spans, contains, joined, positions, face_positions, touched, group_count, test_of, test, passes}
use Rattle.cells.specs.Faces.{face_at}
use Rattle.closed_sets.specs.Rank.{rank}
use Rattle.closed_sets.specs.Formula.{Formula}
use Rattle.closed_sets.specs.Faces.{HasFace, PassingHasFace}
use Rattle.prelude.proofs.Bools.{and-true, true-and, or-true, true-or, two, not-true, not-false, not-both}
use Rattle.prelude.proofs.Differences.{difference}
use Rattle.prelude.proofs.Lists.{Mem, any-true, true-any, any_false, any-ext, filter-ext}
use Rattle.cells.proofs.GroupsAre.{contains-self}
use Rattle.cells.proofs.Faces.{face-is-lowest, face-is-across}
use Rattle.closed_sets.proofs.Closed.{ClosedSet}
use Rattle.closed_sets.proofs.ClosedEnd.{closed-euler, closed-rank, closed-touched-few, closed-bare-few}

-- what a test finds at every element of a list
pub all_in : (p : ℕ → Bool) (xs : List ℕ) → any (λ x. not (p x)) xs ≡ false → (x : ℕ) → Mem x xs → p x ≡ true
all_in p xs h x m = not-false (p x) (any_false (λ x. not (p x)) xs h x m)

-- ---- a cell on the border of a touched cell is touched

spans-trans : (a b c : ℕ) → spans a b ≡ true → spans b c ≡ true → spans a c ≡ true
spans-trans a b c h k =
    elim (or-true (eqb a 1) (eqb a b) h) [
      | inl one ↦ true-or (eqb a 1) (eqb a c) (inl one)
      | inr same ↦ subst (λ (x : ℕ). spans x c ≡ true) (sym (eqb-true a b same)) k
    ]

pub contains-trans : (u v c : ℕ) → contains u v ≡ true → contains v c ≡ true → contains u c ≡ true
unfolding contains
contains-trans u v c h k =
    let p = and-true (spans (u % 3) (v % 3)) (spans (u / 3 % 3) (v / 3 % 3) && spans (u / 9) (v / 9)) h in
    let q = and-true (spans (u / 3 % 3) (v / 3 % 3)) (spans (u / 9) (v / 9)) p.1 in
    let r = and-true (spans (v % 3) (c % 3)) (spans (v / 3 % 3) (c / 3 % 3) && spans (v / 9) (c / 9)) k in
    let s = and-true (spans (v / 3 % 3) (c / 3 % 3)) (spans (v / 9) (c / 9)) r.1 in
    let x = spans-trans (u % 3) (v % 3) (c % 3) p.0 r.0 in
    let y = spans-trans (u / 3 % 3) (v / 3 % 3) (c / 3 % 3) q.0 s.0 in
    let z = spans-trans (u / 9) (v / 9) (c / 9) q.1 s.1 in
    ap₂ ◌&&◌ x (ap₂ ◌&&◌ y z)

pub touched-closed : (kept : ℕ → Bool) → ClosedSet (touched kept)
unfolding touched
touched-closed kept d c h k =
    let r = any-true (λ v. contains v d && kept v) positions k in
    let p = and-true (contains r.0 d) (kept r.0) r.2 in
    true-any (λ v. contains v c && kept v) positions r.0 r.1 (true-and (contains r.0 c) (kept r.0) (contains-trans r.0 d c p.0 h) p.1)

pub kept-touched : (kept : ℕ → Bool) (c : ℕ) → Mem c positions → kept c ≡ true → touched kept c ≡ true
unfolding touched
kept-touched kept c m h = true-any (λ v. contains v c && kept v) positions c m (true-and (contains c c) (kept c) (contains-self c) h)

pub bare-gone : (kept : ℕ → Bool) (c : ℕ) → Mem c positions → touched kept c ≡ false → kept c ≡ false
bare-gone kept c m h =
    elim (two (kept c)) [ inl e ↦ not-both (touched kept c) (kept-touched kept c m e) h | inr e ↦ e ]

-- ---- the test goes by the 26 neighbours

pub place-lt : (c : ℕ) → Mem c positions → c < 27
unfolding any
place-lt c m = ltb-true c 27 (all_in (λ c. ltb c 27) positions refl c m)

pub touched-ext : (kept kept' : ℕ → Bool) → ((v : ℕ) → Mem v positions → kept v ≡ kept' v) → touched kept ≡ touched kept'
unfolding touched
touched-ext kept kept' h =
    fun_ext (λ c.
    any-ext (λ v. contains v c && kept v) (λ v. contains v c && kept' v) positions (λ v m. ap (λ (b : Bool). contains v c && b) (h v m)))

pub test-ext : (kept kept' : ℕ → Bool) → ((v : ℕ) → Mem v positions → kept v ≡ kept' v) → test kept ≡ test kept'
unfolding test
test-ext kept kept' h = ap (λ (t : ℕ → Bool). test_of (filter t positions) (filter (λ c. not (t c)) positions)) (touched-ext kept kept' h)

-- ---- for every block

pub euler : (kept : ℕ → Bool) → (test kept).m + (test kept).corners + (test kept).faces ≡ (test kept).k + 1 + (test kept).edges
unfolding test test_of
euler kept = closed-euler (touched kept) (touched-closed kept)

-- the same as document 02 writes it
pub formula : Formula
formula kept =
    let t = test kept in
    sym (difference t.m (t.k + 1) t.corners t.edges t.faces (euler kept))

pub k-by-rank : (kept : ℕ → Bool) → (test kept).k + rank (touched kept) ≡ (test kept).corners
unfolding test test_of
k-by-rank kept = closed-rank (touched kept) (touched-closed kept)

-- at most eight groups of touched cells, each with a corner, and at most six of bare ones, each with a face
pub k-few : (kept : ℕ → Bool) → (test kept).k ≤ 8
unfolding test test_of
k-few kept = closed-touched-few (touched kept) (touched-closed kept)

pub m-few : (kept : ℕ → Bool) → (test kept).m ≤ 6
unfolding test test_of
m-few kept = closed-bare-few (touched kept) (touched-closed kept)

on-some-face : (c : ℕ) → Mem c positions → any (λ f. contains f c) face_positions ≡ true
unfolding any contains
on-some-face = all_in (λ c. any (λ f. contains f c) face_positions) positions refl

face-place : (c : ℕ) → Mem c face_positions → Mem c positions
unfolding any
face-place c m =
    let r = any-true (eqb c) positions (all_in (λ c. any (eqb c) positions) face_positions refl c m) in
    subst (λ (x : ℕ). Mem x positions) (sym (eqb-true c r.0 r.2)) r.1

no-bare-cell : (kept : ℕ → Bool) → any (λ f. not (touched kept f)) face_positions ≡ false → (test kept).m ≡ 0
unfolding test test_of group_count groups gather filter
no-bare-cell kept h =
    ap (λ (cs : List ℕ). length (gather joined cs []))
    (filter-ext (λ c. not (touched kept c)) (λ c. false) positions (λ c m.
    let r = any-true (λ f. contains f c) face_positions (on-some-face c m) in
    ap not (touched-closed kept r.0 c r.2 (all_in (touched kept) face_positions h r.0 r.1))))

pub bare-face : (kept : ℕ → Bool) → 1 ≤ (test kept).m → (c : ℕ) × (Mem c face_positions) × (touched kept c ≡ false) × (kept c ≡ false)
bare-face kept h =
    elim (two (any (λ f. not (touched kept f)) face_positions)) [
      | inl e ↦
          let r = any-true (λ f. not (touched kept f)) face_positions e in
          let bare = not-true (touched kept r.0) r.2 in
          (r.0, r.1, bare, bare-gone kept r.0 (face-place r.0 r.1) bare)
      | inr e ↦ let z : ⊥ = omega (arith, no-bare-cell kept e) in absurd z
    ]

-- the same, by the voxels
pub face-gone : (kept : ℕ → Bool) → 1 ≤ (test kept).m → any (λ c. not (kept c)) face_positions ≡ true
face-gone kept h = let r = bare-face kept h in true-any (λ c. not (kept c)) face_positions r.0 r.1 (ap not r.3)

-- ---- the lowest numbered bare face, where one is bare

numbered : (c : ℕ) → Mem c face_positions → any (λ n. eqb (face_at n) c) (0 ∷ 1 ∷ 2 ∷ 3 ∷ 4 ∷ 5 ∷ []) ≡ true
unfolding any
numbered = all_in (λ c. any (λ n. eqb (face_at n) c) (0 ∷ 1 ∷ 2 ∷ 3 ∷ 4 ∷ 5 ∷ [])) face_positions refl

pub has-face : HasFace
has-face kept h =
    let b = any-true (λ c. not (kept c)) face_positions h in
    let r = any-true (λ n. eqb (face_at n) b.0) (0 ∷ 1 ∷ 2 ∷ 3 ∷ 4 ∷ 5 ∷ []) (numbered b.0 b.1) in
    let n = r.0 in
    let l : n < 6 = below n r.1 in
    let low = face-is-lowest kept in
    elim (dec_lt (test kept).face 6) [
      | yes y ↦ y
      | no z ↦
          not-both (kept b.0)
          (ap kept (sym (eqb-true (face_at n) b.0 r.2)) ∙ sym (face-is-across kept n l) ∙ low.lower n (omega (arith, low.few)))
          (not-true (kept b.0) b.2)
    ]
  where
    below : (n : ℕ) → Mem n (0 ∷ 1 ∷ 2 ∷ 3 ∷ 4 ∷ 5 ∷ []) → n < 6
    below n m = unfold any in ltb-true n 6 (all_in (λ n. ltb n 6) (0 ∷ 1 ∷ 2 ∷ 3 ∷ 4 ∷ 5 ∷ []) refl n m)

pub passing-has-face : PassingHasFace
unfolding passes
passing-has-face kept e =
    let m = eqb-true (test kept).m 1 (and-true (eqb (test kept).k 1) (eqb (test kept).m 1) e).1 in
    has-face kept (face-gone kept (omega arith))
