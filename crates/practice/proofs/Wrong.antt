-- Generators by another rule give something else: by computation, each at a voxel of 4, 4, 3 from seed 0.
use Rattle.std.proofs.Common.{◌≡◌, ℕ, zero, suc, ◌+◌, ◌%◌, ◌^◌, true, false, eqb, ltb, ℤ, nat_abs, refl, ap, ltb-true, eq-eqb}
use Rattle.cells.specs.Groups.{filter}
use Rattle.prelude.proofs.Bools.{not-both}
use Rattle.rules.specs.declared.Sides.{Sides}
use Rattle.rules.specs.Grid.{range, fit_sides, size, voxel, on_border}
use Rattle.practice.specs.Practice.{advanced, s_after, value_of, practice_at}
use Rattle.practice.specs.Course.{course}
use Rattle.practice.specs.Wrong.{s_by, generator_by, PracticeByNumbers, Other, WrongGenerators}

same_s : (seed i : ℕ) → s_after seed i ≡ s_by 0x9E3779B9 seed i
unfolding s_after advanced s_by
same_s seed zero = refl
same_s seed (suc i) = ap (λ (s : ℕ). (s + 0x9E3779B9) % 2 ^ 32) (same_s seed i)

pub practice-by-numbers : PracticeByNumbers
unfolding practice_at generator_by value_of
practice-by-numbers s seed i = rw (same_s seed (suc i))

-- the sizes differ there
told : (other : Sides → ℕ → ℕ → ℤ) (i : ℕ) → ltb i (size course) ≡ true → eqb (nat_abs (practice_at course 0 i)) (nat_abs (other course 0 i)) ≡ false → Other other
unfolding fit_sides
told other i h d e = not-both _ (eq-eqb _ _ (ap nat_abs (e course 0 i refl (ltb-true i (size course) h)))) d

pub wrong-generators : WrongGenerators
unfolding s_after advanced practice_at value_of s_by generator_by on_border voxel size filter range
wrong-generators =
    record {
      stalled = told _ 21 refl refl;
      early = told _ 21 refl refl;
      shift-15 = told _ 21 refl refl;
      by-2000 = told _ 21 refl refl;
      less-1001 = told _ 21 refl refl;
      hex-b8 = told _ 21 refl refl;
      border-999 = told _ 0 refl refl;
    }
