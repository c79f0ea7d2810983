-- The values of a practice grid: the s of an index, their size, and worked ones.
use Rattle.std.proofs.Common.{◌≡◌, ℕ, zero, suc, ◌+◌, ◌*◌, ◌%◌, ◌^◌, ◌<◌, ◌≤◌, Bool, true, false, cond, ℤ, pos, negsuc, nat_abs, refl, ap, ◌∙◌, arith, ne_eqb}
use native.Mathlib.Nat.{mod-add-mod}
use Rattle.prelude.proofs.Ranges.{get_d-map-range}
use Rattle.rules.specs.declared.Sides.{Sides}
use Rattle.cells.specs.Groups.{any}
use Rattle.rules.specs.Value.{is_missing, missing, beyond}
use Rattle.rules.specs.Grid.{range, size, fit_sides, voxel, voxels, on_border, measured_negative, value_at}
use Rattle.rules.specs.Marks.{stray_mark, wrong_marks, no_marks}
use Rattle.rules.specs.Checks.{unless}
use Rattle.rules.specs.Begin.{begun_on, begun, begin}
use Rattle.practice.specs.Practice.{advanced, s_after, value_of, practice_at, practised, practice}
use Rattle.practice.specs.Course.{SOfIndex, Small, SmallValues, CourseValues, CourseAnswers}
use Rattle.practice.proofs.Values.{value-size}

pub s-of-index : SOfIndex
unfolding s_after advanced
s-of-index seed zero = ap (λ (x : ℕ). x % 2 ^ 32) (omega arith)
s-of-index seed (suc i) =
    ap (λ (x : ℕ). (x + 0x9E3779B9) % 2 ^ 32) (s-of-index seed i)
    ∙ mod-add-mod (seed + (i + 1) * 0x9E3779B9) (2 ^ 32) 0x9E3779B9
    ∙ ap (λ (x : ℕ). x % 2 ^ 32) (omega arith)

-- ---- the value at an index

small : (z : ℤ) → nat_abs z ≤ 1000 → Small z
unfolding is_missing
small (pos n) h = record { measured = refl; size = h }
small (negsuc n) h = record { measured = ne_eqb n 2147483647 (λ e. omega arith); size = h }

module _ (s : Sides) (seed i : ℕ) where
  pub at-border : on_border s i ≡ true → practice_at s seed i ≡ pos 1000
  unfolding practice_at
  at-border e = rw e

  pub small_at : Small (practice_at s seed i)
  unfolding practice_at
  small_at = go (on_border s i)
    where
      go : (t : Bool) → Small (cond t (pos 1000) (value_of (s_after seed (suc i))))
      go true = small (pos 1000) (omega arith)
      go false = small (value_of (s_after seed (suc i))) (value-size (s_after seed (suc i)))

  pub stands_at : i < size s → value_at (practised s seed) i ≡ practice_at s seed i
  unfolding practised voxels
  stands_at h = get_d-map-range (practice_at s seed) missing (size s) i h

pub small-values : SmallValues
small-values =
    record {
      each = λ s seed i h. rw (stands_at s seed i h) (small_at s seed i);
      border = λ s seed i h e. stands_at s seed i h ∙ at-border s seed i e;
    }

pub course-values : CourseValues
unfolding s_after advanced practised voxels range size practice_at value_of on_border voxel
course-values = record { first = refl; second = refl; s = refl; u = refl; all = refl; largest-seed = refl; inner = refl }

pub course-answers : CourseAnswers
unfolding practice begin begun begun_on unless fit_sides size wrong_marks no_marks stray_mark any beyond is_missing measured_negative
    practised voxels practice_at s_after advanced value_of on_border voxel range
course-answers = record { side = refl; length = refl; starts = refl; none-negative = refl }
