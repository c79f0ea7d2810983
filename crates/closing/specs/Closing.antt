-- A kept voxel's distance made negative.
use Rattle.std.specs.Prelude.{cond, ℕ, ℤ}
use Rattle.rules.specs.Status.{kept_byte}
use Rattle.rules.specs.Machine.{closed}

unfoldable pub closed_if : ℤ → ℕ → ℤ
closed_if d x = cond (kept_byte x) (closed d) d
