-- What each scan of the values leaves, where d is 0 at the voxels of S, and the number of steps to S at each other one.
use Rattle.std.specs.Prelude.{◌≡◌, Bool, cond, ◌&&◌, List, map, ℕ, zero, suc, ◌+◌, ◌≤◌, eqb, ℤ, pos, negsuc, length, get_or}
use Rattle.cells.specs.Groups.{filter}
use Rattle.rules.specs.Begin.{greatest}
use Rattle.rules.specs.Value.{is_missing}
use Rattle.rules.specs.Grid.{range, measured_negative, measured_non_negative, amount, value_at}

-- the value that a voxel of S counts with: a missing one lies in a gap that is filled
unfoldable pub counted_as : ℤ → ℤ
counted_as v = cond (is_missing v) (negsuc 0) v

-- the worked distance of a voxel of value v at d steps
unfoldable pub worked_to : ℕ → ℤ → ℕ → ℤ
worked_to m v zero = counted_as v
worked_to m v (suc zero) = cond (measured_non_negative v) v (pos m)
worked_to m v (suc (suc d)) = pos (m + suc (suc d))

-- ---- what each scan leaves

-- 1 for a voxel that is measured negative, else 0: from such labels S is found
unfoldable pub labels_of : List ℤ → List ℕ
labels_of values = map (λ k. cond (measured_negative (value_at values k)) 1 0) (range 0 (length values))

-- 0 or more, and 1 step from S
abbrev pub counts : List ℤ → List ℕ → ℕ → Bool
counts values d k = measured_non_negative (value_at values k) && eqb (get_or d k 0) 1

unfoldable pub greatest_by : List ℤ → List ℕ → ℕ
greatest_by values d = greatest 1 (map (λ k. amount (value_at values k)) (filter (counts values d) (range 0 (length values))))

unfoldable pub worked_by : ℕ → List ℤ → List ℕ → List ℤ
worked_by m values d = map (λ k. worked_to m (value_at values k) (get_or d k 0)) (range 0 (length values))

-- as many distances, taken from S and worked out, as values, and an M that is a value
pub record Fillable (values d dist m : ℕ) : Type 0 where
  pub d-len : d ≡ values
  pub dist-len : dist ≡ values
  pub m-high : m ≤ 1000000000
