-- A coarse start by another rule: on some input each does something else. proofs/Wrong.antt shows it by computation.
use Rattle.std.specs.Prelude.{◌≡◌, Bool, true, false, not, cond, ◌&&◌, ◌||◌, List, [], ◌∷◌, map, ℕ, ◌+◌, ◌*◌, ◌%◌, ◌≤◌, leb, ltb, eqb, length, ℤ, pos}
use Rattle.std.specs.Int.Signed.{lt_z}
use Rattle.cells.specs.Groups.{any, filter}
use Rattle.rules.specs.declared.Sides.{Sides}
use Rattle.rules.specs.Value.{stray}
use Rattle.rules.specs.Grid.{fit_sides, size, voxel, voxels, on_border, is_in, distance_at, measured_negative, value_at}
use Rattle.rules.specs.Checks.{Check, ◌when◌, first_failing}
use Rattle.rules.specs.Answer.{done, NoConstant, Answers}
use Rattle.rules.specs.Begin.{inside, in_box, exposed, waits_first, status_at, start_status}
use Rattle.rules.specs.Meaning.{found}
use Rattle.rules.specs.Marks.{Marked, stray_mark, wrong_marks, no_marks}
use Rattle.rules.specs.Status.{Progress, carving}
use Rattle.rules.specs.Machine.{may_go, sooner}
use Rattle.rules.specs.Demand.{Call, run}
use Rattle.rules.specs.Cases.{sides}
use Rattle.coarse.specs.Blocks.{halved, eight, block_distance, block_marks, split_body}
use Rattle.coarse.specs.declared.CoarseStart.{CoarseStart}
use Rattle.coarse.specs.Coarse.{negative_blocks, block_box, first_status, coarse_run, unfit_side, near_end, unfit_coarse, FourBuffers}
use Rattle.coarse.specs.Coarse.{wrong_lengths, coarse_checks, begin_coarse}
use Rattle.coarse.specs.Promises.{FromCoarse}
use Rattle.coarse.specs.Examples.{grid, lent, coarse_of, slab}

-- ---- blocks

-- the greatest of eight
unfoldable pub greatest_from : ℤ → List ℤ → ℤ
greatest_from p [] = p
greatest_from p (q ∷ qs) = let g = greatest_from p qs in cond (lt_z q g) g q

abbrev pub greatest_of : List ℤ → ℤ
greatest_of [] = pos 0
greatest_of (p ∷ ps) = greatest_from p ps

-- other marks of blocks, of the sides, S and the voxels' marks
abbrev pub OtherMarks : (Sides → List ℕ → Marked → Marked) → Type 0
OtherMarks marks =
    ((s : Sides) (S : List ℕ) (m : Marked) (dist : List ℤ)
    → let h = halved s in coarse_run h (block_marks s m) dist ≡ coarse_run h (marks s S m) dist) → ⊥

-- a block is pinned by its voxels otherwise
abbrev pub pinned_by : ((ℕ → Bool) → List ℕ → Bool) → Sides → List ℕ → Marked → Marked
pinned_by pins s S m = record { pinned = λ j. pins m.pinned (eight s j); hurried = λ j. false }

abbrev pub by_all : (ℕ → Bool) → List ℕ → Bool
by_all p is = not (any (λ i. not (p i)) is)

abbrev pub by_first : (ℕ → Bool) → List ℕ → Bool
by_first p [] = false
by_first p (i ∷ is) = p i

pub record WrongBlocks : Type 0 where
  pub greatest-of-eight : ((s : Sides) (dist : List ℤ) (j : ℕ) → block_distance s dist j ≡ greatest_of (map (distance_at dist) (eight s j))) → ⊥
  pub pinned-by-all : OtherMarks (pinned_by by_all)
  pub pinned-by-the-first : OtherMarks (pinned_by by_first)
  -- pins outside the box of voxels are forgotten
  pub pinned-in-the-box :
      OtherMarks (λ s S m. record { pinned = λ j. any (λ i. m.pinned i && in_box s S i) (eight s j); hurried = λ j. false })
  pub hurries-in-the-run :
      OtherMarks (λ s S m. record { pinned = λ j. any m.pinned (eight s j); hurried = λ j. any m.hurried (eight s j) })

-- ---- the run

abbrev pub OtherRun : (Sides → Marked → List ℤ → Progress) → Type 0
OtherRun other = ((h : Sides) (m : Marked) (dist : List ℤ) → coarse_run h m dist ≡ other h m dist) → ⊥

abbrev pub run_from : (Sides → List ℤ → ℕ) → (Sides → Marked → List ℤ → List ℕ) → Sides → Marked → List ℤ → Progress
run_from limit first h m dist = carving h (may_go m dist) (sooner m dist) (limit h dist) (first h m dist)

pub record WrongRuns : Type 0 where
  -- one examination for each block of the box: some are examined again
  pub stops-early : OtherRun (run_from (λ h dist. found h (block_box h dist)) first_status)
  -- the box holds the pinned blocks too
  pub box-of-pins :
      OtherRun (run_from (λ h dist. size h) (λ h m dist.
      start_status h m (negative_blocks h dist) (in_box h (filter (λ j. is_in (negative_blocks h dist) j || m.pinned j) (voxels h)))))
  -- the negative blocks alone
  pub no-box : OtherRun (run_from (λ h dist. size h) (λ h m dist. start_status h m (negative_blocks h dist) (is_in (negative_blocks h dist))))

-- ---- the split: which voxels of the body are pending

abbrev pub OtherSplit : (Sides → Marked → (ℕ → Bool) → ℕ → Bool) → Type 0
OtherSplit waits =
    ((s : Sides) (m : Marked) (S blocks : List ℕ) (i : ℕ)
    → let body = split_body s blocks in status_at s m S body i ≡ cond (body i) (cond (not (is_in S i) && waits s m body i) 3 1) 0) → ⊥

pub record WrongSplits : Type 0 where
  pub all-pending : OtherSplit (λ s m body i. true)
  pub hurries-lost : OtherSplit (λ s m body i. not (m.pinned i) && exposed s body i)
  pub pins-lost : OtherSplit (λ s m body i. m.hurried i || exposed s body i)
  -- the record counts the coarse examinations
  pub counts-in-the-record :
      ((s : Sides) (T : ℕ) (values : List ℤ) (marks : List ℕ) (l : FourBuffers) (c : CoarseStart)
      → (begin_coarse s T values marks l).answer ≡ done c → c.next.examinations ≡ c.examined) → ⊥
  -- examinations are bounded by the box: blocks stick out of it, and calls that pin what is pending examine it and remove nothing
  pub bound-of-the-box :
      FromCoarse (λ s T values marks start begun.
      (calls : List Call)
      → let sums = (run calls begun).answers in sums.examined ≤ found s (in_box s (inside s values)) + 26 * sums.removed) → ⊥

-- ---- number 31

abbrev pub OtherUnfit : (Sides → List ℤ → Bool) → Type 0
OtherUnfit other = ((s : Sides) (values : List ℤ) → unfit_coarse s values ≡ other s values) → ⊥

-- by a side, by a coordinate, and by which voxels count
abbrev pub unfit_by : (ℕ → Bool) → (ℕ → ℕ → Bool) → (Sides → List ℤ → ℕ → Bool) → Sides → List ℤ → Bool
unfit_by side near counts s values =
    (side s.a || (side s.b || side s.c))
    || any (λ i. counts s values i && (near s.a (voxel s i).x || (near s.b (voxel s i).y || near s.c (voxel s i).z))) (voxels s)

abbrev pub negative_at : Sides → List ℤ → ℕ → Bool
negative_at s values i = measured_negative (value_at values i)

-- near where x is below low, or x + high above the side
abbrev pub near_by : ℕ → ℕ → ℕ → ℕ → Bool
near_by low high side x = ltb x low || ltb side (x + high)

abbrev pub OtherChecks : (Sides → List ℤ → List ℕ → FourBuffers → List Check) → Type 0
OtherChecks checks =
    ((s : Sides) (values : List ℤ) (marks : List ℕ) (l : FourBuffers)
    → first_failing (coarse_checks s values marks l) ≡ first_failing (checks s values marks l)) → ⊥

-- 1, 2 by these lengths, 28 and 29
abbrev pub first_checks : (Sides → List ℤ → FourBuffers → Bool) → Sides → List ℤ → List ℕ → FourBuffers → List Check → List Check
first_checks lengths s values marks l rest =
    1 when not (fit_sides s) ∷ 2 when (lengths s values l || wrong_marks s marks) ∷ 28 when any stray values ∷ 29 when stray_mark marks ∷ rest

abbrev pub border : Sides → List ℤ → Check
border s values = 3 when any (λ i. on_border s i && measured_negative (value_at values i)) (voxels s)

abbrev pub no_negative : Sides → List ℤ → Check
no_negative s values = 4 when not (any (λ i. measured_negative (value_at values i)) (voxels s))

abbrev pub too_near : Sides → List ℤ → Check
too_near s values = 31 when unfit_coarse s values

-- the further buffers have a place for each block, which is fewer where a side is odd; or any length
abbrev pub lengths_of_blocks : Sides → List ℤ → FourBuffers → Bool
lengths_of_blocks s values l = not (
    eqb (length values) (size s) && (eqb (length l.voxels.dist) (size s) && (eqb (length l.voxels.status) (size s)
    && (eqb (length l.blocks.dist) (size (halved s)) && eqb (length l.blocks.status) (size (halved s))))))

abbrev pub lengths_of_voxels : Sides → List ℤ → FourBuffers → Bool
lengths_of_voxels s values l =
    not (eqb (length values) (size s) && (eqb (length l.voxels.dist) (size s) && eqb (length l.voxels.status) (size s)))

pub record WrongFitness : Type 0 where
  pub no-side-of-6 : OtherUnfit (unfit_by (λ n. eqb (n % 2) 1 || leb n 6) near_end negative_at)
  pub odd-sides : OtherUnfit (unfit_by (λ n. ltb n 6) near_end negative_at)
  pub low-of-1 : OtherUnfit (unfit_by unfit_side (near_by 1 3) negative_at)
  pub low-of-3 : OtherUnfit (unfit_by unfit_side (near_by 3 3) negative_at)
  pub high-less-2 : OtherUnfit (unfit_by unfit_side (near_by 2 2) negative_at)
  pub high-less-4 : OtherUnfit (unfit_by unfit_side (near_by 2 4) negative_at)
  -- the voxels of S alone
  pub inside-alone : OtherUnfit (unfit_by unfit_side near_end (λ s values i. is_in (inside s values) i))
  pub before-4 : OtherChecks (λ s v m l. first_checks wrong_lengths s v m l (border s v ∷ too_near s v ∷ no_negative s v ∷ []))
  pub before-3 : OtherChecks (λ s v m l. first_checks wrong_lengths s v m l (too_near s v ∷ border s v ∷ no_negative s v ∷ []))
  pub lengths-of-blocks : OtherChecks (λ s v m l. first_checks lengths_of_blocks s v m l (border s v ∷ no_negative s v ∷ too_near s v ∷ []))
  pub lengths-unread : OtherChecks (λ s v m l. first_checks lengths_of_voxels s v m l (border s v ∷ no_negative s v ∷ too_near s v ∷ []))

-- ---- by its own parts each is the rule

pub record OwnParts : Type 0 where
  pub marks : (s : Sides) (S : List ℕ) (m : Marked) → block_marks s m ≡ pinned_by any s S m
  pub run : (h : Sides) (m : Marked) (dist : List ℤ) → coarse_run h m dist ≡ run_from (λ h dist. 27 * size h) first_status h m dist
  pub split : (s : Sides) (m : Marked) (S : List ℕ) (body : ℕ → Bool) (i : ℕ)
      → status_at s m S body i ≡ cond (body i) (cond (not (is_in S i) && waits_first s m body i) 3 1) 0
  pub unfit : (s : Sides) (values : List ℤ) → unfit_coarse s values ≡ unfit_by unfit_side (near_by 2 3) negative_at s values
  pub checks : (s : Sides) (v : List ℤ) (m : List ℕ) (l : FourBuffers)
      → coarse_checks s v m l ≡ first_checks wrong_lengths s v m l (border s v ∷ no_negative s v ∷ too_near s v ∷ [])

-- a coarse start neither always refuses nor gives a constant; nor do two that are done answer the same
pub record CoarseAnswers : Type 0 where
  pub starts : Answers (λ (marks : List ℕ). (coarse_of slab (155 ∷ 164 ∷ []) marks).answer)
  pub starts-otherwise : NoConstant (λ (T : ℕ). let s = sides 6 6 6 in (begin_coarse s T (grid s (86 ∷ [])) (no_marks s) (lent s)).answer)
