-- For a reader: each point that `points` writes is the one that crossing answers at its position, and no position in between is left out.
use Rattle.std.specs.Prelude.{◌≡◌, ◌⊎◌, List, [], ◌∷◌, ◌++◌, ℕ, ◌+◌, ◌-◌, ◌*◌, ◌/◌, ◌%◌, ◌≤◌, ◌<◌, Float, length, get_or, drop, Option, None, Some}
use Rattle.std.specs.Float.{nan}
use Rattle.prelude.specs.Lists.{range}
use Rattle.rules.specs.Grid.{size}
use Rattle.rules.specs.Answer.{done}
use Rattle.rules.specs.Machine.{State}
use Rattle.surface.specs.declared.Point.{Point}
use Rattle.surface.specs.Surface.{crossing}
use Rattle.points.specs.declared.Listing.{Listing}
use Rattle.points.specs.Listing.{point_at, doubles, points}

-- the double of a buffer at an index
abbrev pub double_at : List Float → ℕ → Float
double_at out i = get_or out i nan

-- the k-th point of a buffer
pub record PointOf (out : List Float) (k : ℕ) (q : Point) : Type 0 where
  pub x-is : double_at out (3 * k) ≡ q.x
  pub y-is : double_at out (3 * k + 1) ≡ q.y
  pub z-is : double_at out (3 * k + 2) ≡ q.z

-- it is the one that crossing answers at a position from `low` on and below `high`
pub record FromCrossing (g : State) (low high k : ℕ) (out : List Float) : Type 0 where
  pub position : ℕ
  pub point : Point
  pub after : low ≤ position
  pub before : position < high
  pub answered : (crossing (position / 3) (position % 3) g).answer ≡ done (Some point)
  pub written : PointOf out k point

-- the points that are found at the positions of a list, in its order
abbrev pub cons_found : Option Point → List Point → List Point
cons_found None qs = qs
cons_found (Some q) qs = q ∷ qs

unfoldable pub gathered : (ℕ → Option Point) → List ℕ → List Point
gathered at [] = []
gathered at (p ∷ ps) = cons_found (at p) (gathered at ps)

-- what a call that is not refused leaves, given p and a buffer
pub record EachPoint (p : ℕ) (g : State) (given : List Float) (l : Listing) (out : List Float) : Type 0 where
  pub each : (k : ℕ) → k < l.count → FromCrossing g p l.next k out
  -- all positions from p up to the one to go on from, in rising order
  pub all : out ≡ doubles (gathered (point_at g) (range p (l.next - p))) ++ drop (3 * l.count) given
  pub counted : l.count ≡ length (gathered (point_at g) (range p (l.next - p)))
  -- the positions ended, or the buffer was full
  pub stopped : (l.next ≡ 3 * size g.rec.sides) ⊎ (l.count ≡ length given / 3)

-- what is to be shown of it
abbrev pub EachPointIsCrossings : Type 0
EachPointIsCrossings =
    (p : ℕ) (g : State) (given : List Float) (l : Listing)
    → (points p g given).answer ≡ done l
    → EachPoint p g given l (points p g given).lent
