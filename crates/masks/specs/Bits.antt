-- The pending voxels of a stretch as the bits of one number: bytes loaded side by side, bits that change places.
use Rattle.std.specs.Prelude.{◌≡◌, false, cond, ◌&&◌, List, ℕ, ◌+◌, ◌-◌, ◌*◌, ◌/◌, ◌%◌, ◌^◌, ◌≤◌, ◌<◌, leb}
use Rattle.bits.specs.Bits.{has}
use Rattle.rules.specs.Status.{is_pending}

-- how many voxels make a stretch
abbrev pub width : ℕ
width = 64

-- w bytes from at on as one number: bit 1 of byte b says whether the voxel is pending
pub record Loaded (w : ℕ) (s : List ℕ) (at r : ℕ) : Type 0 where
  pub small : r < 2 ^ (8 * w)
  pub pending : (b : ℕ) → b < w → has r (8 * b + 1) ≡ is_pending s (at + b)

-- where bit t of a matrix of eight by eight bits stands in its transpose
abbrev pub crossed : ℕ → ℕ
crossed t = t % 8 * 8 + t / 8

-- where bit c comes from, when each bit of the mask and the bit s above it change places
abbrev pub partner : ℕ → ℕ → ℕ → ℕ
partner mask s c = cond (has mask c) (s + c) (cond (leb s c && has mask (c - s)) (c - s) c)

-- so that no bit is in two exchanges
pub record Exchange (mask s : ℕ) : Type 0 where
  pub short : s ≤ 32
  pub fits : mask * 2 ^ s < 2 ^ 64
  pub apart : (c : ℕ) → c < 64 → (has mask c && (leb s c && has mask (c - s))) ≡ false
