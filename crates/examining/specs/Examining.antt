-- Examinations over the queue of pending voxels: what they ask, and what they leave.
use Rattle.std.specs.Prelude.{◌≡◌, true, List, ℕ, ◌≤◌, ◌<◌, ℤ, get_or}
use Rattle.rules.specs.declared.Sides.{Sides}
use Rattle.rules.specs.Grid.{size}
use Rattle.rules.specs.Status.{is_kept, is_pending, any_pending, goes, examine, progress, carving}
use Rattle.rules.specs.Marks.{Marked}
use Rattle.rules.specs.Machine.{may_go, sooner}
use Rattle.neighbourhood.specs.Neighbourhood.{Body}
use Rattle.queue.specs.Queue.{Queue, Lending as Room}
use Rattle.keys.specs.Key.{key_at}
use Rattle.last_removal.specs.LastRemoval.{face_after, LastAt}
use Rattle.examining.specs.declared.Step.{Step}
use Rattle.examining.specs.declared.Count.{Count}
use Rattle.examining.specs.declared.Tally.{Tally}

-- a body whose pending voxels are kept
pub record Workable (s : Sides) (status : List ℕ) : Type 0 where
  pub body : Body s status
  pub pending : (i : ℕ) → is_pending status i ≡ true → is_kept status i ≡ true

-- ---- one examination

-- the first of the front, a pending voxel
pub record Examinable (s : Sides) (m : Marked) (dist : List ℤ) (status offsets tree front : List ℕ) (head i : ℕ) : Type 0 where
  pub queue : Queue m dist status offsets tree front head
  pub work : Workable s status
  pub below : i < size s
  pub pending : is_pending status i ≡ true
  pub first : get_or front head 0 ≡ key_at m.hurried dist status i

pub record Examined (s : Sides) (m : Marked) (dist : List ℤ) (before after offsets tree front : List ℕ) (i : ℕ) (r : Step) : Type 0 where
  pub gone : r.removed ≡ goes s (may_go m dist) before i
  pub status : after ≡ examine s (may_go m dist) before i
  pub queue : Queue m dist after offsets tree front r.head

-- ---- up to so many examinations

pub record Run (s : Sides) (m : Marked) (dist : List ℤ) (limit : ℕ) (before after offsets tree front : List ℕ) (c : Count) : Type 0 where
  pub rule : progress c.examined c.removed (face_after s after c.last) after ≡ carving s (may_go m dist) (sooner m dist) limit before
  pub up_to : c.examined ≤ limit
  pub fewer : c.removed ≤ c.examined
  pub last : LastAt s after c.last
  pub queue : Queue m dist after offsets tree front c.head

-- buffers to work on, and room for their queue
pub record Lending (s : Sides) (dist : List ℤ) (status offsets tree front : List ℕ) : Type 0 where
  pub work : Workable s status
  pub room : Room dist status offsets tree front

pub record Tallied (s : Sides) (m : Marked) (dist : List ℤ) (limit : ℕ) (before after : List ℕ) (t : Tally) : Type 0 where
  pub rule : progress t.examined t.removed t.face after ≡ carving s (may_go m dist) (sooner m dist) limit before
  pub up_to : t.examined ≤ limit
  pub fewer : t.removed ≤ t.examined
  pub left : t.pending ≡ any_pending s after
