-- Begin and begin coarse on a practice grid: of their checks only 4, and 31, can fail.
use Rattle.std.proofs.Common.{◌≡◌, ℕ, ◌/◌, ◌<◌, ◌≤◌, Bool, true, false, not, ◌&&◌, ◌⊎◌, List, [], ◌∷◌, length, ℤ, pos, negsuc, nat_abs, refl, ap, ◌∙◌, inl, inr, arith, le-ltb, eq-eqb}
use borrow.Author.Tests.{lt-leb}
use Rattle.cells.specs.Groups.{any}
use Rattle.prelude.proofs.Bools.{two}
use Rattle.prelude.proofs.Lists.{any-map}
use Rattle.prelude.proofs.Ranges.{below_none, length-map-range}
use Rattle.rules.specs.declared.Sides.{Sides}
use Rattle.rules.specs.Value.{is_missing, beyond, stray}
use Rattle.rules.specs.Grid.{range, size, voxels, fit_sides, on_border, measured_negative, value_at}
use Rattle.rules.specs.Marks.{marked, wrong_marks}
use Rattle.rules.specs.Checks.{◌when◌, unless}
use Rattle.rules.specs.Answer.{Outcome, untouched, buffers}
use Rattle.rules.specs.Begin.{begun_on, begun, begin}
use Rattle.rules.specs.Fill.{filled}
use Rattle.coarse.specs.declared.CoarseStart.{CoarseStart}
use Rattle.coarse.specs.Coarse.{FourBuffers, four_buffers, wrong_lengths, unfit_coarse, coarse_on, begin_coarse}
use Rattle.practice.specs.Practice.{practice_at, practised, practice}
use Rattle.practice.specs.Course.{LentForBoth, RecordOr4, BeginsOnPractice, StartOr4Or31, CoarseOnPractice}
use Rattle.practice.proofs.Course.{at-border, small_at, stands_at}

-- a value of a practice grid is in begin's range
in-range : (z : ℤ) → nat_abs z ≤ 1000 → stray z ≡ false
unfolding beyond
in-range (pos n) h = le-ltb 1000000000 n (omega arith)
in-range (negsuc n) h = ap (λ (t : Bool). t && not (is_missing (negsuc n))) (lt-leb 1000000000 n (omega arith))

module _ (s : Sides) (seed : ℕ) where
  -- what practice leaves
  left_by : (values : List ℤ) → fit_sides s ≡ true → length values ≡ size s → (practice s seed values).lent ≡ practised s seed
  unfolding practice unless
  left_by values fit long = rw (fit, eq-eqb (length values) (size s) long)

  length-is : length (practised s seed) ≡ size s
  unfolding practised voxels
  length-is = length-map-range (practice_at s seed) (size s)

  -- ---- 28

  none-stray : any stray (practised s seed) ≡ false
  unfolding practised voxels
  none-stray =
      any-map stray (practice_at s seed) (range 0 (size s)) ∙ below_none _ (size s) (λ i h. in-range (practice_at s seed i) (small_at s seed i).size)

  -- ---- 3

  none-on-border : any (λ i. on_border s i && measured_negative (value_at (practised s seed) i)) (voxels s) ≡ false
  unfolding voxels measured_negative
  none-on-border = below_none _ (size s) (λ i h. go i h (two (on_border s i)))
    where
      go : (i : ℕ) → i < size s → (on_border s i ≡ true) ⊎ (on_border s i ≡ false) → (on_border s i && measured_negative (value_at (practised s seed) i)) ≡ false
      go i h (inl e) = rw (e, stands_at s seed i h, at-border s seed i e)
      go i h (inr e) = rw e

  -- ---- 4, and 31

  abbrev none-negative : Bool
  none-negative = not (any (λ i. measured_negative (value_at (practised s seed) i)) (voxels s))

  module _ (T : ℕ) (values : List ℤ) (marks : List ℕ) (dist : List ℤ) (status : List ℕ) (given : LentForBoth s values marks dist status) where
    begins : RecordOr4 s T (begin s T (practice s seed values).lent marks dist status).answer
    unfolding begin unless begun begun_on wrong_marks
    begins =
        rw (
          left_by values given.lent.sides given.long,
          given.lent.sides,
          eq-eqb _ _ length-is,
          eq-eqb _ _ given.lent.distances,
          eq-eqb _ _ given.lent.statuses,
          eq-eqb _ _ given.marked,
          none-stray,
          given.known,
          none-on-border,
        ) (go none-negative)
      where
        go : (t : Bool) → RecordOr4 s T (unless (4 when t ∷ []) (untouched (buffers dist status)) (begun s T (practised s seed) (marked marks))).answer
        go true = inr refl
        go false = inl refl

    module _ (block_dist : List ℤ) (block_status : List ℕ) (long-dist : length block_dist ≡ size s / 8) (long-status : length block_status ≡ size s / 8) where
      abbrev lent : FourBuffers
      lent = four_buffers (buffers dist status) (buffers block_dist block_status)

      abbrev work : Outcome FourBuffers CoarseStart
      work = coarse_on s T (filled s (practised s seed)) (marked marks)

      begins-coarse : StartOr4Or31 (begin_coarse s T (practice s seed values).lent marks lent).answer
      unfolding begin_coarse unless coarse_on wrong_lengths wrong_marks
      begins-coarse =
          rw (
            left_by values given.lent.sides given.long,
            given.lent.sides,
            eq-eqb _ _ length-is,
            eq-eqb _ _ given.lent.distances,
            eq-eqb _ _ given.lent.statuses,
            eq-eqb _ _ long-dist,
            eq-eqb _ _ long-status,
            eq-eqb _ _ given.marked,
            none-stray,
            given.known,
            none-on-border,
          )
          (go none-negative (unfit_coarse s (practised s seed)))
        where
          go : (t u : Bool) → StartOr4Or31 (unless (4 when t ∷ 31 when u ∷ []) (untouched lent) work).answer
          go true u = inr (inl refl)
          go false true = inr (inr refl)
          go false false = inl (_, refl)

pub begins-on-practice : BeginsOnPractice
begins-on-practice = begins

pub coarse-on-practice : CoarseOnPractice
coarse-on-practice = begins-coarse
