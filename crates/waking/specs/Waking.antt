-- Waking: which positions of a neighbourhood can wake, and the statuses before and after some voxels were woken.
use Rattle.std.specs.Prelude.{◌≡◌, ◌⊎◌, Bool, true, not, cond, ◌&&◌, ◌||◌, List, ℕ, ◌+◌, ◌*◌, ◌/◌, ◌%◌, ◌≤◌, ◌<◌, ◌^◌, eqb, ℤ, length}
use Rattle.rules.specs.declared.Sides.{Sides}
use Rattle.rules.specs.Grid.{size, is_negative}
use Rattle.rules.specs.Status.{status_of, woken}
use Rattle.bits.specs.Bits.{has}
use Rattle.rules.specs.Neighbours.{Inner}
use Rattle.neighbourhood.specs.Neighbourhood.{Statuses, offset, Room}

-- ---- idle positions: kept and not pending, the middle left out

abbrev pub idle_at : ℕ → ℕ → Bool
idle_at code p = not (eqb p 13) && (has code (2 * p) && not (has code (2 * p + 1)))

-- the idle positions of a code, p at bit 2 p
unfoldable pub idle_bit : ℕ → ℕ → Bool
idle_bit code c = eqb (c % 2) 0 && idle_at code (c / 2)

-- ---- voxels woken

unfoldable pub woken_if : ℤ → Bool → ℕ → ℕ
woken_if d pinned x = cond (is_negative d || pinned) x (woken x)

-- the statuses before and after the voxels of a set were woken
pub record Woken (P : ℕ → Type 0) (before after : List ℕ) : Type 0 where
  pub same : length after ≡ length before
  pub each : (j : ℕ)
      → ((P j) × (status_of after j ≡ woken (status_of before j)))
      ⊎ ((P j → ⊥) × (status_of after j ≡ status_of before j))

-- one voxel, if it may go
abbrev pub Only : (ℕ → Bool) → ℕ → ℕ → Type 0
Only free j k = (k ≡ j) × (free k ≡ true)

-- the voxels at the set bits of a number that may go, from voxel at on
abbrev pub AtBits : (ℕ → Bool) → ℕ → (ℕ → ℕ) → ℕ → Type 0
AtBits free x voxel_at j = (t : ℕ) × (has x t ≡ true) × (j ≡ voxel_at (t / 2)) × (free j ≡ true)

abbrev pub from_voxel : ℕ → ℕ → ℕ → ℕ → ℕ
from_voxel a l at p = at + offset a l p

-- ---- what is lent

-- a position of a neighbourhood in a grid of at most 64 a side
pub record Position (a l p : ℕ) : Type 0 where
  pub row : a ≤ 64
  pub layer : l ≤ 4096
  pub below : p < 27

-- bits of a neighbourhood in buffers of n voxels
pub record Callable (a l at x n : ℕ) : Type 0 where
  pub room : Room a l at n
  pub few : x < 2 ^ 54

-- an inner voxel, and buffers of the grid's size
pub record Removable (s : Sides) (dist : List ℤ) (status : List ℕ) (i : ℕ) : Type 0 where
  pub voxel : Inner s i
  pub distances : length dist ≡ size s
  pub statuses : Statuses s status
