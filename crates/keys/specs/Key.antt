-- The key of a voxel: one number, whose order is that of the choice. Of two keys the one of greater rank is greater, and of equal ranks the
-- one of smaller index. The rank alone says who goes ahead: a hurried voxel before all others, and then the greater distance.
use Rattle.std.specs.Prelude.{◌≡◌, Bool, true, cond, List, ℕ, zero, suc, ◌+◌, ◌-◌, ◌*◌, ◌/◌, ◌%◌, ◌≤◌, ◌<◌, max, ℤ, pos, negsuc, length}
use Rattle.bits.specs.Bits.{has}
use Rattle.rules.specs.Grid.{distance_at}
use Rattle.rules.specs.Status.{is_pending}
pub use Rattle.masks.specs.Bits.{width}

-- 2^18, the greatest n
abbrev pub most : ℕ
most = 262144

-- the lent buffers
pub record Lent (dist : List ℤ) (status : List ℕ) : Type 0 where
  pub same : length dist ≡ length status
  pub some : 1 ≤ length status
  pub few : length status ≤ most

-- ---- ranks and keys

-- a distance of 32 bits raised by 2^31 + 1, so that it is never 0
unfoldable pub rank_of : ℤ → ℕ
rank_of (pos n) = suc (n + 2147483648)
rank_of (negsuc n) = suc (2147483647 - n)

-- by which a hurried voxel's rank is above that of every distance
unfoldable pub hurry_of : (ℕ → Bool) → ℕ → ℕ
hurry_of hurried j = cond (hurried j) 4294967296 0

-- the rank of a voxel, given its distance
abbrev pub rank_by : (ℕ → Bool) → ℤ → ℕ → ℕ
rank_by hurried d j = rank_of d + hurry_of hurried j

-- 0 where it is not pending
unfoldable pub rank_at : (ℕ → Bool) → List ℤ → List ℕ → ℕ → ℕ
rank_at hurried dist status j = cond (is_pending status j) (rank_by hurried (distance_at dist j) j) 0

-- 0 of rank 0
abbrev pub key_of : ℕ → ℕ → ℕ
key_of r j = r * most - j

unfoldable pub key_at : (ℕ → Bool) → List ℤ → List ℕ → ℕ → ℕ
key_at hurried dist status j = key_of (rank_at hurried dist status j) j

-- the key of a pending voxel
abbrev pub voxel_key : (ℕ → Bool) → List ℤ → ℕ → ℕ
voxel_key hurried dist j = key_of (rank_by hurried (distance_at dist j) j) j

-- the voxel of a key that is not 0
abbrev pub voxel_of : ℕ → ℕ
voxel_of k = most - 1 - (k - 1) % most

-- ---- stretches of voxels, for any key

-- the greatest of f a, f (a + 1), .. , k of them; 0 of none
unfoldable pub greatest : (ℕ → ℕ) → ℕ → ℕ → ℕ
greatest f a zero = 0
greatest f a (suc k) = max (f a) (greatest f (suc a) k)

-- how many stretches n voxels have; the last may end early
abbrev pub stretches : ℕ → ℕ
stretches n = (n + (width - 1)) / width

-- the greatest key of stretch k
unfoldable pub stretch_key : (ℕ → ℕ) → ℕ → ℕ
stretch_key key k = greatest key (width * k) width

-- ---- the voxels of a number's bits, whose distances are those from voxel at on

abbrev pub bit_key : (ℕ → Bool) → List ℤ → ℕ → ℕ → ℕ → ℕ
bit_key hurried dist at m t = cond (has m t) (key_of (rank_by hurried (distance_at dist t) (at + t)) (at + t)) 0

pub record Readable (dist : List ℤ) (at m : ℕ) : Type 0 where
  pub few : at + length dist ≤ most
  pub some : 1 ≤ length dist
  pub each : (t : ℕ) → t < width → has m t ≡ true → t < length dist
