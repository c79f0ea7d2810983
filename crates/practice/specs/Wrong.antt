-- Generators by another rule, and that none of them is the rule: a worked voxel tells each (proofs/Wrong.antt).
use Rattle.std.specs.Prelude.{◌≡◌, ℕ, zero, suc, ◌+◌, ◌/◌, ◌%◌, ◌^◌, ◌<◌, true, cond, not, length, ℤ, pos, ◌-ℤ◌, bit_xor}
use Rattle.cells.specs.Groups.{filter}
use Rattle.rules.specs.declared.Sides.{Sides}
use Rattle.rules.specs.Grid.{range, fit_sides, size, on_border}
use Rattle.practice.specs.Practice.{practice_at}

-- ---- the rule by its five numbers, and by how often s has advanced for the value of an index

unfoldable pub s_by : ℕ → ℕ → ℕ → ℕ
s_by added seed zero = seed
s_by added seed (suc i) = (s_by added seed i + added) % 2 ^ 32

unfoldable pub generator_by : ℕ → ℕ → ℕ → ℕ → ℕ → (Sides → ℕ → ℕ) → Sides → ℕ → ℕ → ℤ
generator_by added shift divisor less border advances sides seed i =
    let s = s_by added seed (advances sides i) in
    cond (on_border sides i) (pos border) (pos (bit_xor s (s / 2 ^ shift) % divisor) -ℤ pos less)

-- for the value of an index s has advanced there too, and at each before it
abbrev pub at_each : Sides → ℕ → ℕ
at_each sides i = suc i

abbrev pub PracticeByNumbers : Type 0
PracticeByNumbers = (s : Sides) (seed i : ℕ) → practice_at s seed i ≡ generator_by 0x9E3779B9 16 2001 1000 1000 at_each s seed i

-- ---- with one of them another

abbrev pub Other : (Sides → ℕ → ℕ → ℤ) → Type 0
Other other = ((s : Sides) (seed i : ℕ) → fit_sides s ≡ true → i < size s → practice_at s seed i ≡ other s seed i) → ⊥

-- s does not advance at border voxels
abbrev pub within_only : Sides → ℕ → ℕ
within_only s i = length (filter (λ j. not (on_border s j)) (range 0 (suc i)))

-- u is taken before the add
abbrev pub before_the_add : Sides → ℕ → ℕ
before_the_add s i = i

pub record WrongGenerators : Type 0 where
  pub stalled : Other (generator_by 0x9E3779B9 16 2001 1000 1000 within_only)
  pub early : Other (generator_by 0x9E3779B9 16 2001 1000 1000 before_the_add)
  pub hex-b8 : Other (generator_by 0x9E3779B8 16 2001 1000 1000 at_each)
  pub shift-15 : Other (generator_by 0x9E3779B9 15 2001 1000 1000 at_each)
  pub by-2000 : Other (generator_by 0x9E3779B9 16 2000 1000 1000 at_each)
  pub less-1001 : Other (generator_by 0x9E3779B9 16 2001 1001 1000 at_each)
  pub border-999 : Other (generator_by 0x9E3779B9 16 2001 1000 999 at_each)
