-- What the faces say that take, open and carve answer.
use mathlib.Core.Path.{◌≡◌, refl, sym, ap, ◌∙◌, subst}
use mathlib.Core.Bool.{Bool, true, false, ◌||◌}
use mathlib.Core.List.{List, [], ◌∷◌}
use Rattle.std.specs.Prelude.{Option, None, Some}
use Prim.Native.Nat.{ℕ, zero, suc, ◌≤◌, ◌<◌}
use native.Mathlib.Omega.{arith}
use lib.Dec.{leb}
use lib.ListN.{length}
use borrow.Author.Tests.{lt-leb, leb-false}
use Rattle.cells.specs.Groups.{any, cons_if}
use Rattle.cells.specs.Cells.{test, passes}
use Rattle.cells.proofs.Faces.{face-is-lowest, face-is-across}
use Rattle.closed_sets.proofs.EveryBlock.{has-face}
use Rattle.prelude.proofs.Bools.{and-true, or-false, not-both}
use Rattle.rules.specs.declared.Sides.{Sides}
use Rattle.rules.specs.Grid.{neighbourhood}
use Rattle.rules.specs.Begin.{exposed}
use Rattle.rules.specs.Checks.{Check, unless, AllHold}
use Rattle.rules.specs.declared.Opening.{Opening}
use Rattle.rules.specs.Answer.{Reply, refused, done, Outcome, untouched, Buffers, Removal}
use Rattle.rules.specs.Status.{Progress, is_kept, is_pending, test_at, first_of, goes, examine, latest, counted, examining, carving, removable}
use Rattle.rules.specs.Status.{openable as may-open}
use Rattle.rules.specs.Marks.{marked}
use Rattle.rules.specs.Machine.{lent_to, may_go, farther, sooner, marked_checks, carved, carve, take_checks, taken, take, to_open, is_none}
use Rattle.rules.specs.Machine.{the_voxel, open_checks, opened, open_next}
use Rattle.rules.specs.Faces.{ComesOut, TakeHasFace, OpenHasFace, faces_of, last_or, CarveFaces, CarveHasFace}
use Rattle.rules.proofs.Checks.{by-checks}
use Rattle.rules.proofs.Fit.{takeable, openable}
use Rattle.rules.proofs.Foremost.{farther-order, first-foremost}
use Rattle.rules.proofs.Latest.{carving-face}
use Rattle.rules.proofs.Topology.Removal.{passes-exposed}

-- ---- a voxel with a face neighbour that is not kept

comes-out : (s : Sides) (status : List ℕ) (i : ℕ) → exposed s (is_kept status) i ≡ true → ComesOut s status i (test_at s status i).face
unfolding exposed test_at
comes-out s status i e =
    let block = neighbourhood s (is_kept status) i in
    let low = face-is-lowest block in
    let l = has-face block e in
    record {
      one-of-six = l;
      clear = sym (face-is-across block (test block).face l) ∙ low.bare l;
      lower = λ n h. sym (face-is-across block n (omega arith)) ∙ low.lower n h;
    }

passing-out : (s : Sides) (status : List ℕ) (i : ℕ) → passes (test_at s status i) ≡ true → ComesOut s status i (test_at s status i).face
passing-out s status i e = comes-out s status i (unfold test_at in passes-exposed s (is_kept status) i e)

-- ---- take and open

-- a call that was not refused
module _ {A : Type 0} (work : Outcome Buffers A) (lent : Buffers) (a : A) (Q : Type 0) where
  not-refused : (cs : List Check) → (AllHold cs → work.answer ≡ done a → Q) → (unless cs (untouched lent) work).answer ≡ done a → Q
  not-refused cs worked e =
      by-checks (untouched lent) work (λ o. o.answer ≡ done a → Q) cs
      (λ n f. let z : ◌≡◌ {A = ℕ} 0 1 = cc in let y : ⊥ = omega arith in absurd y)
      worked e

-- what was asked for, where it was not refused; after a refusal what is given
abbrev answered : {A : Type 0} → A → Reply A → A
answered given (refused n) = given
answered given (done a) = a

pub take-has-face : TakeHasFace
unfolding take taken
take-has-face marks i g a e =
    let s = g.rec.sides in
    not-refused (taken (may_go (marked marks) g.dist) i g) (lent_to g) a (ComesOut s g.status i a.face) (take_checks marks i g)
    (λ h f. subst (ComesOut s g.status i) (ap (λ (r : Reply Removal). (answered a r).face) f) (passing-out s g.status i (takeable g marks i h).passing))
    e

pub open-has-face : OpenHasFace
unfolding open_next opened
open-has-face marks g a e =
    let s = g.rec.sides in
    let free = may_go (marked marks) g.dist in
    not-refused (opened free (the_voxel (to_open free g)) g) (lent_to g) a (ComesOut s g.status a.index a.face) (open_checks marks g)
    (λ h f. subst (λ (r : Opening). ComesOut s g.status r.index r.face) (ap (answered a) f)
    (chosen free (to_open free g) refl (openable g marks h).found))
    e
  where
    chosen : (free : ℕ → Bool) (o : Option ℕ) → to_open free g ≡ o → is_none o ≡ false
        → let s = g.rec.sides in ComesOut s g.status (the_voxel o) (test_at s g.status (the_voxel o)).face
    chosen free None q n = not-both true refl n
    chosen free (Some i) q n =
        unfold to_open may-open in
        let s = g.rec.sides in
        let f = first-foremost s (farther g.dist) (farther-order g.dist) (may-open s free g.status) i q in
        comes-out s g.status i (and-true (removable free g.status i) (exposed s (is_kept g.status) i) f.chosen).1

-- ---- carve

module _ (s : Sides) (free : ℕ → Bool) (ahead : ℕ → ℕ → Bool) where
  record Faced (faces : List ℕ) (p : Progress) : Type 0 where
    number : p.removed ≡ length faces
    last : p.face ≡ last_or 6 faces
    each : any (leb 6) faces ≡ false

  last_of : (face : ℕ) (faces : List ℕ) → latest face (length faces) (last_or 6 faces) ≡ last_or face faces
  last_of face [] = refl
  last_of face (x ∷ faces) = refl

  faced : (limit : ℕ) (status : List ℕ) → Faced (faces_of s free ahead limit status) (carving s free ahead limit status)
  unfolding faces_of carving any
  faced zero status = record { number = refl; last = refl; each = refl }
  faced (suc limit) status = go (first_of s ahead (is_pending status)) (λ i. faced limit (examine s free status i))
    where
      rest : ℕ → Progress
      rest i = carving s free ahead limit (examine s free status i)

      faces : Option ℕ → List ℕ
      faces o = elim o [
        | None ↦ []
        | Some i ↦ cons_if (goes s free status i) (test_at s status i).face (faces_of s free ahead limit (examine s free status i))
      ]

      out : (i : ℕ) → goes s free status i ≡ true → ComesOut s status i (test_at s status i).face
      out i e = unfold goes in passing-out s status i (and-true (passes (test_at s status i)) (free i) e).0

      one : (i : ℕ) (u : Bool) → goes s free status i ≡ u → (fs : List ℕ) → Faced fs (rest i)
          → Faced (cons_if u (test_at s status i).face fs) (counted u (test_at s status i).face (rest i))
      one i true e fs f =
          record {
            number = ap suc f.number;
            last = (λ n. latest (test_at s status i).face (f.number n) (f.last n)) ∙ last_of (test_at s status i).face fs;
            each = ap (λ (t : Bool). t || any (leb 6) fs) (lt-leb 6 (test_at s status i).face (out i e).one-of-six) ∙ f.each;
          }
      one i false e fs f =
          record { number = f.number; last = carving-face s free ahead limit (examine s free status i) ∙ f.last; each = f.each }

      go : (o : Option ℕ) → ((i : ℕ) → Faced (faces_of s free ahead limit (examine s free status i)) (rest i)) → Faced (faces o) (examining s free status rest o)
      go None f = record { number = refl; last = refl; each = refl }
      go (Some i) f = one i (goes s free status i) refl (faces_of s free ahead limit (examine s free status i)) (f i)

lastly : (n : ℕ) (faces : List ℕ) → any (leb 6) faces ≡ false → 1 ≤ length faces → last_or n faces < 6
unfolding any
lastly n [] e h = let z : ⊥ = omega arith in absurd z
lastly n (x ∷ []) e h = leb-false 6 x (or-false (leb 6 x) false e).0
lastly n (x ∷ y ∷ faces) e h = lastly x (y ∷ faces) (or-false (leb 6 x) (any (leb 6) (y ∷ faces)) e).1 (omega arith)

nothing : (faces : List ℕ) → length faces ≡ 0 → last_or 6 faces ≡ 6
nothing [] e = refl
nothing (x ∷ faces) e = let z : ⊥ = omega arith in absurd z

pub carve-has-face : CarveHasFace
unfolding carve carved
carve-has-face marks limit g a e =
    let s = g.rec.sides in
    let free = may_go (marked marks) g.dist in
    let ahead = sooner (marked marks) g.dist in
    let faces = faces_of s free ahead limit g.status in
    not-refused (carved free ahead limit g) (lent_to g) a (CarveFaces faces a) (marked_checks marks g)
    (λ h f. let p = faced s free ahead limit g.status in
    subst (CarveFaces faces) (ap (answered a) f)
    (record {
      number = p.number;
      last = p.last;
      each-of-six = p.each;
      none-removed = λ z. p.last ∙ nothing faces (sym p.number ∙ z);
      some-removed = λ l. subst (λ (n : ℕ). n < 6) (sym p.last) (lastly 6 faces p.each (subst (λ (n : ℕ). 1 ≤ n) p.number l));
    })) e
