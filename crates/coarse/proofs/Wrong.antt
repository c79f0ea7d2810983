-- A coarse start by another rule does something else: by computation, each on one input that tells the two apart.
use mathlib.Core.Path.{◌≡◌, refl, ap, sym}
use mathlib.Core.Bool.{false, true≢false}
use mathlib.Core.List.{List, [], ◌∷◌}
use Prim.Native.Nat.{ℕ}
use native.Mathlib.Omega.{arith}
use lib.Dec.{eqb}
use lib.ListN.{replicate, set}
use lib.IntN.{ℤ, pos, negsuc, nat_abs}
use Rattle.rules.specs.Answer.{is_done, buffers}
use Rattle.rules.specs.Checks.{first_failing}
use Rattle.rules.specs.Begin.{new_record, inside, in_box}
use Rattle.rules.specs.Fill.{filled}
use Rattle.rules.specs.Meaning.{found}
use Rattle.rules.specs.Demand.{carve_up_to, call, run}
use Rattle.rules.specs.Status.{Progress, status_of}
use Rattle.rules.specs.Marks.{Marked, unmarked, no_marks}
use Rattle.rules.specs.Cases.{sides, mark_at}
use Rattle.rules.proofs.Answers.{answers, same_answer}
use Rattle.coarse.specs.declared.CoarseStart.{CoarseStart}
use Rattle.coarse.specs.Coarse.{four_buffers}
use Rattle.coarse.specs.Promises.{coarse_state}
use Rattle.coarse.specs.Examples.{grid, lent, coarse_of, diagonal, pinned_at, slab, around_it, two_blocks, small}
use Rattle.coarse.specs.Wrong.{greatest_from, WrongBlocks, WrongRuns, WrongSplits, WrongFitness, OwnParts, CoarseAnswers}
use Rattle.coarse.proofs.Examples.{coarse-rules, two_blocks_lem}

-- ---- blocks, in the grid of two of them

-- a run whose status at a block, or whose count, is another
status-differs : (j : ℕ) (p q : Progress) → (status_of p.status j ≡ status_of q.status j → ⊥) → p ≡ q → ⊥
status-differs j p q f e = f (ap (λ (r : Progress). status_of r.status j) e)

count-differs : (p q : Progress) → (p.examined ≡ q.examined → ⊥) → p ≡ q → ⊥
count-differs p q f e = f (ap (λ (r : Progress). r.examined) e)

-- a pinned voxel, and beside it a hurried one
both : Marked
both = record { pinned = eqb 148; hurried = eqb 149 }

pub wrong-blocks : WrongBlocks
unfolding coarse-rules greatest_from both
wrong-blocks =
    record {
      greatest-of-eight = λ h. let z : ◌≡◌ {A = ℕ} 5 0 = ap nat_abs (h (sides 6 6 6) (negsuc 4 ∷ []) 0) in omega arith;
      pinned-by-all = λ h. status-differs 22 _ _ (λ e. let z : ◌≡◌ {A = ℕ} 1 0 = e in omega arith) (h slab [] both diagonal);
      pinned-by-the-first = λ h. status-differs 22 _ _ (λ e. let z : ◌≡◌ {A = ℕ} 1 0 = e in omega arith) (h slab [] (pinned_at 149) diagonal);
      pinned-in-the-box = λ h. status-differs 22 _ _ (λ e. let z : ◌≡◌ {A = ℕ} 1 0 = e in omega arith) (h slab (155 ∷ 164 ∷ []) both diagonal);
      hurries-in-the-run = λ h. count-differs _ _ (λ e. let z : ◌≡◌ {A = ℕ} 1 2 = e in omega arith) (h slab [] both diagonal);
    }

-- ---- the run

-- 5, 5, 3: two corners of nine blocks are negative, and ten examinations are made
corners : List ℤ
corners = set (set (replicate 75 (pos 5)) 31 (negsuc 4)) 43 (negsuc 4)

pub wrong-runs : WrongRuns
unfolding coarse-rules corners
wrong-runs =
    record {
      stops-early = λ h. count-differs _ _ (λ e. let z : ◌≡◌ {A = ℕ} 10 9 = e in omega arith) (h (sides 5 5 3) unmarked corners);
      box-of-pins = λ h. status-differs 17 _ _ (λ e. let z : ◌≡◌ {A = ℕ} 0 1 = e in omega arith) (h (sides 4 4 3) (pinned_at 17) diagonal);
      no-box = λ h. count-differs _ _ (λ e. let z : ◌≡◌ {A = ℕ} 2 0 = e in omega arith) (h (sides 4 4 3) unmarked diagonal);
    }

-- ---- the split

-- one voxel of S, and the seven others of its block: pending after the start, and pinned by the call after it
pinned-pending :
    let begun = coarse_state (coarse_of small (86 ∷ []) (no_marks small)).lent (record { next = new_record small 1; examined = 0 }) in
    let sums = (run (carve_up_to (replicate 216 1) 100 ∷ []) begun).answers in
    (sums.examined ≡ 7) × (sums.removed ≡ 0) × (found small (in_box small (inside small (filled small (grid small (86 ∷ []))))) ≡ 1)
unfolding coarse-rules run call
pinned-pending = (refl, refl, refl)

pub wrong-splits : WrongSplits
unfolding coarse-rules two_blocks
wrong-splits =
    record {
      all-pending = λ h. let z : ◌≡◌ {A = ℕ} 1 3 = h (sides 8 8 8) unmarked (293 ∷ []) around_it 292 in omega arith;
      hurries-lost = λ h.
          let m : Marked = record { pinned = λ i. false; hurried = eqb 292 } in
          let z : ◌≡◌ {A = ℕ} 3 1 = h (sides 8 8 8) m (293 ∷ []) around_it 292 in
          omega arith;
      pins-lost = λ h. let z : ◌≡◌ {A = ℕ} 1 3 = h (sides 8 8 8) (pinned_at 301) (293 ∷ []) around_it 301 in omega arith;
      counts-in-the-record = λ h.
          let z : ◌≡◌ {A = ℕ} 0 1 = h slab 1 (grid slab (155 ∷ 164 ∷ [])) (set (mark_at slab 148 1) 149 2) (lent slab) _ two_blocks_lem.answer in
          omega arith;
      bound-of-the-box = λ h.
          let z = h small 1 (grid small (86 ∷ [])) (no_marks small) (lent small) (record { next = new_record small 1; examined = 0 }) refl in
          omega (arith, z (carve_up_to (replicate 216 1) 100 ∷ []), pinned-pending.0, pinned-pending.1, pinned-pending.2);
    }

-- ---- number 31, of 6, 6, 6 but for the odd side and the order

pub wrong-fitness : WrongFitness
unfolding coarse-rules first_failing
wrong-fitness =
    record {
      no-side-of-6 = λ h. true≢false (sym (h (sides 6 6 6) []));
      odd-sides = λ h. true≢false (h (sides 7 6 6) []);
      low-of-1 = λ h. true≢false (h (sides 6 6 6) (grid (sides 6 6 6) (85 ∷ [])));
      low-of-3 = λ h. true≢false (sym (h (sides 6 6 6) (grid (sides 6 6 6) (86 ∷ []))));
      high-less-2 = λ h. true≢false (h (sides 6 6 6) (grid (sides 6 6 6) (88 ∷ [])));
      high-less-4 = λ h. true≢false (sym (h (sides 6 6 6) (grid (sides 6 6 6) (129 ∷ []))));
      inside-alone = λ h. true≢false (h (sides 6 6 6) (grid (sides 6 6 6) (46 ∷ 128 ∷ 129 ∷ [])));
      before-4 = λ h. let z : ◌≡◌ {A = ℕ} 4 31 = h (sides 3 3 3) (grid (sides 3 3 3) []) (no_marks (sides 3 3 3)) (lent (sides 3 3 3)) in omega arith;
      before-3 = λ h. let z : ◌≡◌ {A = ℕ} 3 31 = h (sides 3 3 3) (grid (sides 3 3 3) (0 ∷ [])) (no_marks (sides 3 3 3)) (lent (sides 3 3 3)) in omega arith;
      lengths-of-blocks = λ h. let z : ◌≡◌ {A = ℕ} 4 2 = h (sides 3 3 3) (grid (sides 3 3 3) []) (no_marks (sides 3 3 3)) (lent (sides 3 3 3)) in omega arith;
      lengths-unread = λ h.
          let l = four_buffers (lent (sides 3 3 3)).voxels (buffers [] []) in
          let z : ◌≡◌ {A = ℕ} 2 4 = h (sides 3 3 3) (grid (sides 3 3 3) []) (no_marks (sides 3 3 3)) l in
          omega arith;
    }

-- ---- its own parts, and its answers

pub own-parts : OwnParts
unfolding coarse-rules
own-parts =
    record {
      marks = λ s S m. refl;
      run = λ h m dist. refl;
      split = λ s m S body i. refl;
      unfit = λ s values. refl;
      checks = λ s v m l. refl;
    }

pub coarse-answers : CoarseAnswers
unfolding coarse-rules two_blocks
coarse-answers =
    record {
      starts = answers (λ marks. (coarse_of slab (155 ∷ 164 ∷ []) marks).answer) (set (mark_at slab 148 1) 149 2) [] 2
          (ap is_done two_blocks_lem.answer) refl;
      starts-otherwise = λ c h. let e : ◌≡◌ {A = ℕ} 0 1 = ap (λ (a : CoarseStart). a.next.allowed) (same_answer _ _ c (h 0) (h 1)) in omega arith;
    }
