-- Waking with the queue of pending voxels kept.
use Rattle.std.specs.Prelude.{◌≡◌, List, ℕ, ◌<◌, ℤ, length, get_or}
use Rattle.rules.specs.declared.Sides.{Sides}
use Rattle.rules.specs.Grid.{size}
use Rattle.rules.specs.Marks.{Marked}
use Rattle.rules.specs.Neighbours.{Inner}
use Rattle.neighbourhood.specs.Neighbourhood.{offset}
use Rattle.waking.specs.Waking.{Woken, Callable}
use Rattle.queue.specs.Queue.{Queue}

-- how far each position lies from the first one: rows are a long, layers l
pub record Near (a l : ℕ) (near : List ℕ) : Type 0 where
  pub long : length near ≡ 27
  pub each : (p : ℕ) → p < 27 → get_or near p 0 ≡ offset a l p

pub record CallableQueued (m : Marked) (dist : List ℤ) (status offsets tree front near : List ℕ) (head a l at x : ℕ) : Type 0 where
  pub near_by : Near a l near
  pub queue : Queue m dist status offsets tree front head
  pub bits : Callable a l at x (length status)

pub record WokenQueued (P : ℕ → Type 0) (m : Marked) (dist : List ℤ) (before after offsets tree front : List ℕ) (head : ℕ) : Type 0 where
  pub woken : Woken P before after
  pub queue : Queue m dist after offsets tree front head

-- an inner voxel, around which others are to wake
pub record Leaving (s : Sides) (m : Marked) (dist : List ℤ) (status offsets tree front : List ℕ) (head i : ℕ) : Type 0 where
  pub queue : Queue m dist status offsets tree front head
  pub statuses : length status ≡ size s
  pub voxel : Inner s i
