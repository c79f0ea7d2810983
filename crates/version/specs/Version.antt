-- A version as one number, and that of the archive.
use Rattle.std.specs.Prelude.{ℕ, ◌+◌, ◌*◌, ◌<◌}

abbrev pub version_number : ℕ → ℕ → ℕ → ℕ
version_number major minor patch = major * 1000000 + minor * 1000 + patch

-- include/wattlerugby.h has the same three numbers, which a test compares
abbrev pub archive_version : ℕ
archive_version = version_number 1 0 0

-- Versions compare by <, as long as the second and the third number stay below 1,000: the first that differs decides (proofs/LaterIsGreater.antt).
pub record LaterIsGreater : Type 0 where
  pub by-major : (a b c x y z : ℕ) → b < 1000 → c < 1000 → a < x → version_number a b c < version_number x y z
  pub by-minor : (a b c y z : ℕ) → c < 1000 → b < y → version_number a b c < version_number a y z
  pub by-patch : (a b c z : ℕ) → c < z → version_number a b c < version_number a b z
