-- What follows from a coarse start: its kept blocks, split again, are a body to start from, so all holds of it that holds of every start.
use mathlib.Core.Path.{◌≡◌, refl, sym, ◌∙◌, subst}
use mathlib.Core.Bool.{true, false}
use mathlib.Core.List.{List}
use Prim.Native.Nat.{ℕ}
use native.Mathlib.Omega.{arith}
use lib.Dec.{eqb}
use lib.IntN.{ℤ}
use lib.ListN.{length}
use borrow.Author.Tests.{eqb-true}
use Rattle.prelude.proofs.Bools.{and-true, or-false, not-false, not-both}
use Rattle.rules.specs.declared.Sides.{Sides}
use Rattle.rules.specs.Grid.{fit_sides, size}
use Rattle.rules.specs.Checks.{AllHold}
use Rattle.rules.specs.Answer.{done, untouched, buffers}
use Rattle.rules.specs.Fill.{filled}
use Rattle.rules.specs.Begin.{inside, worked, start_status, new_record}
use Rattle.rules.specs.Fit.{Beginnable}
use Rattle.rules.specs.Marks.{marked, wrong_marks}
use Rattle.rules.specs.Machine.{State}
use Rattle.rules.specs.Demand.{Call, Promise, FromBegin, DemandAfter, FitAfter, CarveEndsAfter}
use Rattle.rules.specs.Corollaries.{CountedAfter, ClosedAfter}
use Rattle.rules.specs.LongRange.{WithinRangeAfter}
use Rattle.rules.specs.Gaps.{FilledStays}
use Rattle.rules.specs.Slices.{CarvesAddAfter, CarvesJoinAfter}
use Rattle.rules.specs.Fifteen.{Pins, OpenAfter, NoneToOpenAfter, FifteenTellsAfter, FifteenWhenAfter, FifteenLastAfter, SameBodyAfter}
use Rattle.rules.proofs.Checks.{by-checks, fails_at, held_at}
use Rattle.rules.proofs.Fit.{beginnable-by}
use Rattle.rules.proofs.FitKept.{inside-below}
use Rattle.rules.proofs.Fill.{beginnable-filled}
use Rattle.rules.proofs.Topology.Start.{kept-at-first, kept-start}
use Rattle.rules.proofs.Demand.{start_state, FromStart, all-lend-map, all-lend-any, by-begin, from-begin, demand-after}
use Rattle.rules.proofs.NeverUnfit.{fit-after, carve-ends-after}
use Rattle.rules.proofs.Corollaries.{counted-after, closed_after}
use Rattle.rules.proofs.LongRange.{within-range-after}
use Rattle.rules.proofs.Gaps.{filled-stays}
use Rattle.rules.proofs.Slices.{carves-add-after, carves-join-after}
use Rattle.rules.proofs.Fifteen.{unpinned-walls, open_after, none-to-open-after, fifteen-tells-after, fifteen-when-after, fifteen-last-after, same-body-after}
use Rattle.coarse.specs.Blocks.{halved, block_distances, block_marks, split_body}
use Rattle.coarse.specs.declared.CoarseStart.{CoarseStart}
use Rattle.coarse.specs.Coarse.{coarse_run, FourBuffers, four_buffers, wrong_lengths, coarse_checks, coarse_on, begin_coarse}
use Rattle.coarse.specs.Promises.{FromCoarse, coarse_state, CoarseDemandIsMet, CoarseNeverUnfit, CoarseCarveEnds, CoarseKeptAndRemoved}
use Rattle.coarse.specs.Promises.{CoarseClosedWithoutOpenings, CoarseStaysWithinRange, CoarseCarvesAdd, CoarseCarvesJoin, CoarseGoneIsOpen}
use Rattle.coarse.specs.Promises.{CoarseNoneToOpen, CoarseFifteenTells, CoarseFifteenWhen, CoarseFifteenIsLast, CoarseOneBody, CoarseFilledAreKept}
use Rattle.coarse.specs.Promises.{CoarseBody, CoarseBodyIs, SameDistances, PlainAndCoarse}
use Rattle.coarse.proofs.Fitness.{CoarseFit, coarse-fit, filled-as-fit}
use Rattle.coarse.proofs.Run.{run_ends, run-negative, run-pinned, run-fails}
use Rattle.coarse.proofs.Body.{half-fit, length-blocks, blocks-off, some_block, body-holds, split-start}

-- ---- the call

module _ (s : Sides) (values : List ℤ) (marks : List ℕ) where
  -- what it leaves and answers, of the values with gaps filled
  abbrev leaves : FourBuffers
  leaves =
      let S = inside s values in
      let dist = worked s values S in
      let blocks = block_distances s dist in
      let status = (coarse_run (halved s) (block_marks s (marked marks)) blocks).status in
      four_buffers (buffers dist (start_status s (marked marks) S (split_body s status))) (buffers blocks status)

  abbrev answers : ℕ → CoarseStart
  answers T =
      let blocks = block_distances s (worked s values (inside s values)) in
      record { next = new_record s T; examined = (coarse_run (halved s) (block_marks s (marked marks)) blocks).examined }

module _ (s : Sides) (T : ℕ) (values : List ℤ) (marks : List ℕ) (lent : FourBuffers) where
  abbrev used : List ℤ
  used = filled s values

  module _ (h : AllHold (coarse_checks s values marks lent)) where
    held : (n : ℕ) → fails_at n (coarse_checks s values marks lent) ≡ false
    held = held_at (coarse_checks s values marks lent) h

    given : Beginnable s values
    unfolding wrong_lengths
    given =
        let l = or-false (wrong_lengths s values lent) (wrong_marks s marks) (held 2) in
        let n = and-true (eqb (length values) (size s)) _ (not-false _ l.0) in
        beginnable-by s values (not-false (fit_sides s) (held 1)) (eqb-true (length values) (size s) n.0) (held 28) (held 3) (not-false _ (held 4))

    fits : CoarseFit s used
    fits = coarse-fit s used (filled-as-fit s values given ∙ held 31)

  -- what holds of that, holds of its answer and buffers
  module _ (P : FourBuffers → CoarseStart → Type 0) where
    pub by-coarse : (Beginnable s used → CoarseFit s used → P (leaves s used marks) (answers s used marks T))
        → (c : CoarseStart) → (begin_coarse s T values marks lent).answer ≡ done c → P (begin_coarse s T values marks lent).lent c
    unfolding begin_coarse coarse_on
    by-coarse holds c e =
        by-checks (untouched lent) (coarse_on s T used (marked marks)) (λ o. o.answer ≡ done c → P o.lent c)
        (coarse_checks s values marks lent)
        (λ n f. let z : ◌≡◌ {A = ℕ} 0 1 = cc in let y : ⊥ = omega arith in absurd y)
        (λ h f. let q : answers s used marks T ≡ c = cc in
        subst (λ (c : CoarseStart). P (leaves s used marks) c) q (holds (beginnable-filled s values (given h)) (fits h))) e

-- what every start promises
pub from-coarse : (P : Promise) → FromStart P → FromCoarse P
from-coarse P holds s T values marks lent c e =
    let used = filled s values in
    by-coarse s T values marks lent (λ l c. P s T used marks (split_body s l.blocks.status) (coarse_state l c))
    (λ accepted off. holds s T used marks (split_body s (leaves s used marks).blocks.status) (split-start s used accepted off (marked marks))) c e

pub coarse-demand-is-met : CoarseDemandIsMet
coarse-demand-is-met = from-coarse DemandAfter demand-after

pub coarse-never-unfit : CoarseNeverUnfit
coarse-never-unfit = from-coarse FitAfter fit-after

pub coarse-carve-ends : CoarseCarveEnds
coarse-carve-ends = from-coarse CarveEndsAfter carve-ends-after

pub coarse-kept-and-removed : CoarseKeptAndRemoved
coarse-kept-and-removed = from-coarse CountedAfter counted-after

pub coarse-closed-without-openings : CoarseClosedWithoutOpenings
coarse-closed-without-openings = from-coarse ClosedAfter closed_after

pub coarse-stays-within-range : CoarseStaysWithinRange
coarse-stays-within-range = from-coarse WithinRangeAfter within-range-after

pub coarse-carves-add : CoarseCarvesAdd
coarse-carves-add = from-coarse CarvesAddAfter carves-add-after

pub coarse-carves-join : CoarseCarvesJoin
coarse-carves-join = from-coarse CarvesJoinAfter carves-join-after

pub coarse-gone-is-open : CoarseGoneIsOpen
coarse-gone-is-open = from-coarse OpenAfter open_after

pub coarse-none-to-open : CoarseNoneToOpen
coarse-none-to-open = from-coarse NoneToOpenAfter none-to-open-after

pub coarse-fifteen-tells : CoarseFifteenTells
coarse-fifteen-tells = from-coarse FifteenTellsAfter fifteen-tells-after

pub coarse-fifteen-when : CoarseFifteenWhen
coarse-fifteen-when = from-coarse FifteenWhenAfter fifteen-when-after

pub coarse-fifteen-is-last : CoarseFifteenIsLast
coarse-fifteen-is-last = from-coarse FifteenLastAfter fifteen-last-after

pub coarse-one-body : CoarseOneBody
coarse-one-body =
    from-coarse (λ s T values marks start begun. FromCoarse (SameBodyAfter s values start begun)) (λ s T values marks start from.
    from-coarse (SameBodyAfter s values start (start_state s T values (marked marks) start)) (same-body-after s T values marks start from))

pub coarse-filled-are-kept : CoarseFilledAreKept
coarse-filled-are-kept s T values marks lent c e i f m =
    let used = filled s values in
    let body = split_body s (leaves s used marks).blocks.status in
    by-coarse s T values marks lent (λ l c. FilledStays (coarse_state l c) i)
    (λ accepted off. filled-stays s values i f m T marks body (split-start s used accepted off (marked marks))) c e

-- ---- the four buffers

coarse-body : (s : Sides) (values : List ℤ) (marks : List ℕ) → Beginnable s values → CoarseFit s values
    → CoarseBody s values (marked marks) (leaves s values marks)
coarse-body s values marks accepted off =
    let h = halved s in
    let m = marked marks in
    let S = inside s values in
    let blocks = block_distances s (worked s values S) in
    let body = split_body s (leaves s values marks).blocks.status in
    let f = half-fit s values accepted off in
    let inner = blocks-off s values accepted off in
    let b = some_block s values accepted off in
    record {
      statuses = refl;
      split = λ i l. unfold split_body in kept-at-first s m S body i l;
      inside-kept = λ i e. kept-start s m S body i ∙ body-holds s values accepted off m i e;
      distances = refl;
      least = refl;
      ended = run_ends h f (block_marks s m) blocks inner b.0 b.1 b.2;
      none_passes = run-fails h f (block_marks s m) blocks inner b.0 b.1 b.2;
      negative-kept = λ j e.
          run-negative h f (block_marks s m) blocks inner b.0 b.1 b.2 j
          (omega (arith, inside-below blocks j e, length-blocks s values accepted off)) e;
      pinned-kept = run-pinned h f (block_marks s m) blocks inner b.0 b.1 b.2;
    }

pub coarse-body-is : CoarseBodyIs
coarse-body-is s T values marks lent c e =
    let used = filled s values in
    by-coarse s T values marks lent (λ l c. CoarseBody s used (marked marks) l) (coarse-body s used marks) c e

-- ---- beside a plain start

pub same-distances : SameDistances
same-distances s T T' values marks marks' dist status lent r c p q =
    let used = filled s values in
    let W : List ℤ = worked s used (inside s used) in
    let plain = by-begin (λ g. g.dist ≡ W) s T values marks dist status (λ accepted. refl) r p in
    let coarse = by-coarse s T' values marks' lent (λ l c. l.voxels.dist ≡ W) (λ accepted off. refl) c q in
    plain ∙ sym coarse

-- marks that pin nothing ask nothing of the calls before
pub pins-none : (lent : List ℕ) → ((j : ℕ) → (marked lent).pinned j ≡ false) → (calls : List Call) (g : State) → Pins lent g calls
pins-none lent none calls g =
    all-lend-map (λ marks. Unit {0}) (λ marks. (j : ℕ) → (marked lent).pinned j ≡ true → (marked marks).pinned j ≡ true)
    (λ marks u j e. not-both ((marked lent).pinned j) e (none j)) calls g (all-lend-any calls g)

pub plain-and-coarse : PlainAndCoarse
plain-and-coarse s T T' values marks marks' dist status lent r c p q calls calls' lent₁ lent₂ none₁ none₂ e f =
    let both : FromBegin (λ s T values marks start begun. FromCoarse (SameBodyAfter s values start begun)) =
    from-begin (λ s T values marks start begun. FromCoarse (SameBodyAfter s values start begun)) (λ s T values marks start from.
    from-coarse (SameBodyAfter s values start (start_state s T values (marked marks) start)) (same-body-after s T values marks start from)) in
    let S = inside s (filled s values) in
    both s T values marks dist status r p s T' values marks' lent c q refl
    (record { calls = calls; lent = lent₁; pins = pins-none lent₁ none₁ calls _; ends = e })
    (record { calls = calls'; lent = lent₂; pins = pins-none lent₂ none₂ calls' _; ends = f })
    (λ i h. unpinned-walls S lent₁ _ i (none₁ i) ∙ sym (unpinned-walls S lent₂ _ i (none₂ i)))
