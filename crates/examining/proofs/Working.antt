-- A body whose pending voxels are kept stays one.
use mathlib.Core.Path.{◌≡◌, refl, sym, ap, ◌∙◌, subst}
use mathlib.Core.Logic.{inl, inr}
use mathlib.Core.Bool.{Bool, true, false, not, cond, ◌&&◌}
use mathlib.Core.List.{List}
use Rattle.std.specs.Prelude.{Option, None, Some}
use Prim.Native.Nat.{ℕ, ◌+◌, ◌-◌, ◌/◌, ◌%◌, ◌≤◌, ◌<◌}
use native.Mathlib.Omega.{arith}
use native.Mathlib.Decide.{ℕ_discrete, dec_lt}
use borrow.Author.Tests.{eqb-false, ne_eqb}
use lib.Dec.{eqb, lit<}
use lib.IntN.{ℤ}
use lib.ListN.{length, set, get_or-eq_default}
use lib.Seq.{get_or-set_same, get_or-set_other}
use Rattle.cells.specs.Cells.{Test, test}
use Rattle.closed_sets.proofs.EveryBlock.{test-ext}
use Rattle.prelude.proofs.Bools.{and-true, true-and, and_one, or-true, not-both}
use Rattle.prelude.proofs.Ranges.{get_d-map-range}
use Rattle.rules.specs.declared.Sides.{Sides}
use Rattle.rules.specs.Grid.{size, voxels, touch, neighbourhood}
use Rattle.rules.specs.Status.{status_of, kept_byte, pending_byte, is_kept, is_pending, test_at, woken, rested, removable, status_without, without}
use Rattle.rules.specs.Status.{goes, examined_as, examine, latest}
use Rattle.rules.specs.Marks.{Marked}
use Rattle.rules.specs.Machine.{may_go}
use Rattle.rules.specs.Fit.{Known, FitVoxels}
use Rattle.rules.proofs.Topology.Surface.{omit}
use Rattle.rules.proofs.Topology.Around.{place-low}
use Rattle.rules.proofs.Topology.Steps.{length_without, kept-without, pending-without, length-stayed, kept-stayed, pending-stayed}
use Rattle.rules.specs.Neighbours.{Inner}
use Rattle.neighbourhood.specs.Neighbourhood.{Few, around}
use Rattle.neighbourhood.proofs.Interior.{around-middle, around-apart}
use Rattle.neighbourhood.proofs.Gathering.{neighbourhood-around}
use Rattle.neighbourhood.proofs.Bodies.{kept-inner, fit-body}
use Rattle.queue.specs.Queue.{Queue, Written}
use Rattle.last_removal.specs.LastRemoval.{face_after}
use Rattle.examining.specs.Examining.{Workable, Examined}

known_kept : (x : ℕ) → Known x → pending_byte x ≡ true → kept_byte x ≡ true
unfolding kept_byte pending_byte
known_kept x (inl e) p = not-both (pending_byte x) p (ap pending_byte e)
known_kept x (inr (inl e)) p = ap kept_byte e
known_kept x (inr (inr e)) p = ap kept_byte e

pub fit-workable : (s : Sides) (dist : List ℤ) (status : List ℕ) → FitVoxels s dist status → Workable s status
unfolding is_kept is_pending
fit-workable s dist status f = record { body = fit-body s status dist f; pending = λ i e. known_kept (status_of status i) (f.known i) e }

-- a byte of two bits that was made pending
woken-few : (x : ℕ) → x ≤ 3 → woken x ≤ 3
unfolding woken pending_byte
woken-few x h = go (eqb (x / 2 % 2) 1) refl
  where
    go : (t : Bool) → eqb (x / 2 % 2) 1 ≡ t → cond t x (x + 2) ≤ 3
    go true e = h
    go false e = let n = eqb-false (x / 2 % 2) 1 e in omega arith

module _ (s : Sides) (status : List ℕ) (w : Workable s status) where
  pub pending-inner : (i : ℕ) → i < size s → is_pending status i ≡ true → Inner s i
  pending-inner i h p = kept-inner s status w.body i h (w.pending i p)

  abbrev lent : length status ≡ size s
  lent = w.body.statuses.lent

  abbrev few : Few status
  few = w.body.statuses.few

  few-without : (free : ℕ → Bool) (i : ℕ) → Few (without s free status i)
  unfolding without voxels status_without
  few-without free i j =
      elim (dec_lt j (size s)) [
        | yes h ↦ subst (λ (x : ℕ). x ≤ 3) (sym (get_d-map-range (status_without s free status i) 0 (size s) j h))
            (byte (eqb j i) (removable free status j && touch s i j) (status_of status j) (few j))
        | no n ↦
            (let l = length_without s free status lent i in
            subst (λ (x : ℕ). x ≤ 3) (sym (get_or-eq_default (without s free status i) 0 (omega arith))) (omega arith))
      ]
    where
      byte : (e t : Bool) (x : ℕ) → x ≤ 3 → cond e 0 (cond t (woken x) x) ≤ 3
      byte true t x h = omega arith
      byte false true x h = woken-few x h
      byte false false x h = h

  few-rested : (i : ℕ) → i < size s → Few (set status i (rested (status_of status i)))
  unfolding rested
  few-rested i h j =
      elim (ℕ_discrete j i) [
        | yes e ↦ (let f = few i in subst (λ (x : ℕ). x ≤ 3) (sym (ap (status_of (set status i (status_of status i - 2))) e
            ∙ get_or-set_same status i (status_of status i - 2) 0 (omega (arith, lent)))) (omega arith))
        | no n ↦ subst (λ (x : ℕ). x ≤ 3) (sym (get_or-set_other status i j (status_of status i - 2) 0 n)) (few j)
      ]

  pub workable-without : (free : ℕ → Bool) (i : ℕ) → Workable s (without s free status i)
  unfolding omit
  workable-without free i =
      let kept = kept-without s free status lent i in
      let waiting = pending-without s free status lent i in
      record {
        body =
            record {
              sides = w.body.sides;
              statuses = record { lent = length_without s free status lent i; few = few-without free i };
              border = λ j h e. (λ n. kept n j) ∙ ap (λ (t : Bool). t && not (eqb j i)) (w.body.border j h e);
            };
        pending = λ j e. (λ n. kept n j)
            ∙ elim (or-true (omit (is_pending status) i j) (omit (is_kept status) i j && (free j && touch s i j)) ((λ n. sym waiting n j) ∙ e)) [
              | inl t ↦ (let p = and-true (is_pending status j) (not (eqb j i)) t in true-and (is_kept status j) (not (eqb j i)) (w.pending j p.0) p.1)
              | inr t ↦ (and-true (omit (is_kept status) i j) (free j && touch s i j) t).0
            ];
      }

  module _ (i : ℕ) (h : i < size s) (p : is_pending status i ≡ true) where
    pub workable-rested : Workable s (set status i (rested (status_of status i)))
    unfolding omit
    workable-rested =
        let kept = kept-stayed s status lent i h p in
        let waiting = pending-stayed s status lent i h p in
        record {
          body =
              record {
                sides = w.body.sides;
                statuses = record { lent = length-stayed s status lent i h p; few = few-rested i h };
                border = λ j l e. (λ n. kept n j) ∙ w.body.border j l e;
              };
          pending = λ j e. (λ n. kept n j) ∙ w.pending j (and-true (is_pending status j) (not (eqb j i)) ((λ n. sym waiting n j) ∙ e)).0;
        }

    -- what is kept around a voxel that is gone, and around any that was gone before, is as it was
    test-gone : (free : ℕ → Bool) → test_at s (without s free status i) i ≡ test_at s status i
    unfolding test_at omit
    test-gone free =
        let n = pending-inner i h p in
        let kept = is_kept status in
        ap (λ (k : ℕ → Bool). test (neighbourhood s k i)) (kept-without s free status lent i)
        ∙ test-ext (neighbourhood s (omit kept i) i) (neighbourhood s kept i) (λ v m.
        let l = place-low v m in
        neighbourhood-around s i n (omit kept i) v l.0
        ∙ ap (λ (t : Bool). kept (around s i v) && not t)
        (ne_eqb (around s i v) i (λ e. l.1 (around-apart s i n v 13 l.0 (lit< tt) (e ∙ sym (around-middle s i n)))))
        ∙ and_one (kept (around s i v))
        ∙ sym (neighbourhood-around s i n kept v l.0))

    test-rested : (j : ℕ) → test_at s (set status i (rested (status_of status i))) j ≡ test_at s status j
    unfolding test_at
    test-rested j = ap (λ (k : ℕ → Bool). test (neighbourhood s k j)) (kept-stayed s status lent i h p)

    pub face-examined :
        (free : ℕ → Bool) (last : Option ℕ)
        → let u = goes s free status i in
        face_after s (examine s free status i) (cond u (Some i) last) ≡ latest (face_after s status last) (cond u 1 0) (test_at s status i).face
    unfolding examine
    face-examined free = go (goes s free status i)
      where
        go : (u : Bool) (last : Option ℕ)
            → face_after s (examined_as u s free status i) (cond u (Some i) last) ≡ latest (face_after s status last) (cond u 1 0) (test_at s status i).face
        go true last = ap (λ (t : Test). t.face) (test-gone free)
        go false None = refl
        go false (Some j) = ap (λ (t : Test). t.face) (test-rested j)

  pub workable-examine : (free : ℕ → Bool) (i : ℕ) → i < size s → is_pending status i ≡ true → Workable s (examine s free status i)
  unfolding examine
  workable-examine free i h p = go (goes s free status i)
    where
      go : (t : Bool) → Workable s (examined_as t s free status i)
      go true = workable-without free i
      go false = workable-rested i h p

-- ---- one examination, by what the test says

-- the byte that was written, as the rule has it
pub written_as :
    {m : Marked} {dist : List ℤ} {before after offsets tree front : List ℕ} {head i x y : ℕ} → Written m dist before after offsets tree front head i x → x ≡ y
    → after ≡ set before i y
written_as {before = before} {i = i} w e = w.status ∙ ap (set before i) e

module _ (s : Sides) (m : Marked) (dist : List ℤ) (before after offsets tree front : List ℕ) (head i : ℕ) (r : Bool) (e : r ≡ goes s (may_go m dist) before i)
  where
    abbrev then : Bool → List ℕ
    then t = examined_as t s (may_go m dist) before i

    same : (t : Bool) → r ≡ t → t ≡ goes s (may_go m dist) before i
    same t f = sym f ∙ e

    pub gone-examined :
        r ≡ true → after ≡ without s (may_go m dist) before i → Queue m dist after offsets tree front head
        → Examined s m dist before after offsets tree front i (record { removed = true; head = head })
    unfolding examine
    gone-examined t w x = record { gone = same true t; status = w ∙ ap then (same true t); queue = x }

    pub rest-examined :
        r ≡ false → after ≡ set before i (rested (status_of before i)) → Queue m dist after offsets tree front head
        → Examined s m dist before after offsets tree front i (record { removed = false; head = head })
    unfolding examine
    rest-examined t w x = record { gone = same false t; status = w ∙ ap then (same false t); queue = x }
