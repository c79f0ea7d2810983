-- Sweeps along an axis. A line has m positions, and the m st voxels from `at` on are the st lines of one slab. Neighbours on a line are st apart.
-- A sweep visits the positions in turn, upwards or downwards, and each distance becomes at most 1 more than the one before it.
use Rattle.std.specs.Prelude.{◌≡◌, ◌⊎◌, Bool, true, false, List, ℕ, zero, suc, ◌+◌, ◌-◌, ◌*◌, ◌≤◌, ◌<◌, min, length, get_or}
use Rattle.rules.specs.Grid.{gap}
use Rattle.loops.specs.InPlace.{Each}

-- the position that has turn t
abbrev pub turn_of : Bool → ℕ → ℕ → ℕ
turn_of false m t = t
turn_of true m t = m - 1 - t

-- where the voxels of that position start
abbrev pub position_of : ℕ → ℕ → ℕ → Bool → ℕ → ℕ
position_of at st m down t = at + turn_of down m t * st

-- along a line of voxels p 0, p 1, ..: the least of d at p t, 1 + d at p (t - 1), 2 + d at p (t - 2), ..
unfoldable pub best : List ℕ → (ℕ → ℕ) → ℕ → ℕ
best d p zero = get_or d (p zero) 0
best d p (suc t) = min (get_or d (p (suc t)) 0) (best d p t + 1)

-- a run of n voxels is lowered to at most 1 more than the run at `from`
abbrev pub Lowered : ℕ → ℕ → ℕ → List ℕ → List ℕ → Type 0
Lowered at from n d = Each 0 (λ k v. min v (get_or d (from + (k - at)) 0 + 1)) at (at + n) d

-- two runs of n among `all` voxels that have none in common, and distances to which 1 can be added
pub record Apart (d : List ℕ) (at from n : ℕ) : Type 0 where
  pub at_in : at + n ≤ length d
  pub from_in : from + n ≤ length d
  pub apart : (at + n ≤ from) ⊎ (from + n ≤ at)
  pub small : (k : ℕ) → get_or d k 0 < 255

-- a slab of m positions with st voxels at each
pub record Slab (d : List ℕ) (st m at : ℕ) : Type 0 where
  pub st-pos : 1 ≤ st
  pub m-pos : 1 ≤ m
  pub fits : at + m * st ≤ length d
  pub few : length d ≤ 262144
  pub small : (k : ℕ) → get_or d k 0 < 255

-- one way through a slab
pub record Swept (st m at : ℕ) (down : Bool) (d d' : List ℕ) : Type 0 where
  pub len : length d' ≡ length d
  pub lower : (k : ℕ) → get_or d' k 0 ≤ get_or d k 0
  pub inside : (t r : ℕ) → t < m → r < st
      → get_or d' (position_of at st m down t + r) 0 ≡ best d (λ j. position_of at st m down j + r) t
  pub outside : (k : ℕ) → (at ≤ k → at + m * st ≤ k) → get_or d' k 0 ≡ get_or d k 0

-- the voxel at position q of line r: a slab's lines are its rows, one after the other, or they are across them, side by side
abbrev pub place_of : Bool → ℕ → ℕ → ℕ → ℕ → ℕ → ℕ
place_of true st m at r q = at + r * m + q
place_of false st m at r q = at + q * st + r

-- on each line of a slab, each voxel gets the least of the distances there, each with the steps to it added
pub record Spread (along : Bool) (st m at : ℕ) (d d' : List ℕ) : Type 0 where
  pub near : (q q' r : ℕ) → q < m → q' < m → r < st
      → get_or d' (place_of along st m at r q) 0 ≤ get_or d (place_of along st m at r q') 0 + gap q q'
  pub some : (q r : ℕ) → q < m → r < st
      → (q' : ℕ) × (q' < m) × (get_or d (place_of along st m at r q') 0 + gap q q' ≤ get_or d' (place_of along st m at r q) 0)

-- both ways through a slab
pub record Both (along : Bool) (st m at : ℕ) (d d' : List ℕ) : Type 0 where
  pub len : length d' ≡ length d
  pub lower : (k : ℕ) → get_or d' k 0 ≤ get_or d k 0
  pub spread : Spread along st m at d d'
  pub outside : (k : ℕ) → (at ≤ k → at + m * st ≤ k) → get_or d' k 0 ≡ get_or d k 0
