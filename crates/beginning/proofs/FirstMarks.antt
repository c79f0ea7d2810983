-- The status with marks, by the one without them.
use mathlib.Core.Path.{◌≡◌, refl, sym, ap, ◌∙◌, subst}
use mathlib.Core.Logic.{inl, inr}
use mathlib.Core.Bool.{Bool, true, false, not, cond, ◌&&◌, ◌||◌}
use mathlib.Core.List.{List}
use Prim.Native.Nat.{ℕ, ◌≤◌, ◌<◌}
use native.Mathlib.Omega.{arith}
use borrow.Author.Tests.{ltb-true, ltb-false}
use lib.Dec.{eqb, ltb}
use lib.IntN.{ℤ}
use lib.ListN.{length, get_or, get_or-eq_default}
use Rattle.prelude.proofs.Bools.{two}
use Rattle.prelude.proofs.Ranges.{is-map-range, get_d-map-range, length-map-range}
use Rattle.rules.specs.declared.Sides.{Sides}
use Rattle.rules.specs.Grid.{size, voxels}
use Rattle.rules.specs.Marks.{pinned_mark, hurried_mark, marked, unmarked}
use Rattle.rules.specs.Machine.{is_inside}
use Rattle.rules.specs.Begin.{is_in, inside, in_box, exposed, worked, waits_first, status_at, start_status}
use Rattle.rules.proofs.Topology.Start.{worked-signs}
use Rattle.loops.specs.InPlace.{Each}
use Rattle.first_marks.specs.FirstMarks.{marked_status, marked_status_at}
use Rattle.beginning.specs.Work.{WorkedOut}

-- kept, in S, hurried, pinned, exposed
marked-rule : (kept in-s h p x : Bool)
    → let y = cond {A = ℕ} kept (cond (not in-s && x) 3 1) 0 in
    cond (in-s || eqb y 0) y (cond h 3 (cond p 1 y)) ≡ cond kept (cond (not in-s && (h || (not p && x))) 3 1) 0
marked-rule false true h p x = refl
marked-rule false false h p x = refl
marked-rule true true h p x = refl
marked-rule true false true p true = refl
marked-rule true false true p false = refl
marked-rule true false false true true = refl
marked-rule true false false true false = refl
marked-rule true false false false true = refl
marked-rule true false false false false = refl

-- of any body to start from, where the distances are negative at the voxels of S
module _ (s : Sides) (S : List ℕ) (kept : ℕ → Bool) (dist : List ℤ) (signs : (k : ℕ) → k < size s → is_inside dist k ≡ is_in S k) (marks : List ℕ) where
  marked-same : (k : ℕ) → k < size s → marked_status_at dist (marked marks) k (status_at s unmarked S kept k) ≡ status_at s (marked marks) S kept k
  unfolding marked_status status_at waits_first is_inside
  marked-same k h =
      let m = marked marks in
      let y = cond {A = ℕ} (kept k) (cond (not (is_in S k) && exposed s kept k) 3 1) 0 in
      ap (λ (t : Bool). cond (t || eqb y 0) y (cond (m.hurried k) 3 (cond (m.pinned k) 1 y))) (signs k h)
      ∙ marked-rule (kept k) (is_in S k) (m.hurried k) (m.pinned k) (exposed s kept k)

  -- beyond the last mark nothing is asked
  beyond : (k : ℕ) → length marks ≤ k → status_at s unmarked S kept k ≡ status_at s (marked marks) S kept k
  unfolding status_at waits_first marked pinned_mark hurried_mark
  beyond k h =
      ap (λ (t : ℕ). cond (kept k) (cond (not (is_in S k) && (hurried_mark t || (not (pinned_mark t) && exposed s kept k))) 3 1) 0)
      (sym (get_or-eq_default marks 0 h))

  pub marked-is : (before after : List ℕ) → before ≡ start_status s unmarked S kept
      → Each 0 (marked_status_at dist (marked marks)) 0 (length marks) before after → after ≡ start_status s (marked marks) S kept
  unfolding start_status voxels
  marked-is before after e E =
      is-map-range (status_at s (marked marks) S kept) 0 (size s) after (E.len ∙ ap length e ∙ length-map-range (status_at s unmarked S kept) (size s))
      (λ k h.
      (let was : get_or before k 0 ≡ status_at s unmarked S kept k =
      ap (λ (l : List ℕ). get_or l k 0) e ∙ get_d-map-range (status_at s unmarked S kept) 0 (size s) k h in
      elim (two (ltb k (length marks))) [
        | inl t ↦ E.inside k (omega arith) (ltb-true k _ t) ∙ ap (marked_status_at dist (marked marks) k) was ∙ marked-same k h
        | inr t ↦ E.outside k (λ q. ltb-false k _ t) ∙ was ∙ beyond k (ltb-false k _ t)
      ]))

-- of the box
pub worked-with : (s : Sides) (values : List ℤ) (marks : List ℕ) (d : List ℤ) (before after : List ℕ) → WorkedOut s unmarked values d before
    → Each 0 (marked_status_at d (marked marks)) 0 (length marks) before after → WorkedOut s (marked marks) values d after
worked-with s values marks d before after w E =
    let S = inside s values in
    record {
      distances = w.distances;
      statuses =
          marked-is s S (in_box s S) (worked s values S) (worked-signs s values) marks before after w.statuses
          (subst (λ (l : List ℤ). Each 0 (marked_status_at l (marked marks)) 0 (length marks) before after) w.distances E);
    }
