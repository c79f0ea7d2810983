-- The points of a finished grid, many in one call. Document 01 does not have this call: it is ours, made of crossing's own rule.
use Rattle.std.specs.Prelude.{List, [], ◌∷◌, ◌++◌, ℕ, zero, suc, ◌-◌, ◌*◌, ◌/◌, ◌%◌, ◌≤◌, ltb, Float, length, drop, Option, None, Some}
use Rattle.rules.specs.Grid.{size}
use Rattle.rules.specs.Checks.{Check, ◌when◌, unless}
use Rattle.rules.specs.Answer.{Reply, refused, done, Outcome, outcome, untouched}
use Rattle.rules.specs.Machine.{State, finished_checks}
use Rattle.rules.specs.Fit.{Ended}
use Rattle.surface.specs.declared.Point.{Point}
use Rattle.surface.specs.Surface.{crossing}
use Rattle.points.specs.declared.Listing.{Listing}

-- ---- positions: 3 * index + axis

-- what crossing answers is a point, or none: also where it refuses, since the next voxel lies beyond the grid
abbrev pub point_in : Reply (Option Point) → Option Point
point_in (refused n) = None
point_in (done o) = o

unfoldable pub point_at : State → ℕ → Option Point
point_at g p = point_in (crossing (p / 3) (p % 3) g).answer

-- ---- a walk over positions, in rising order

-- the points found, and the position to go on from
pub record Walk : Type 0 where
  pub points : List Point
  pub next : ℕ

abbrev pub found : Point → Walk → Walk
found q w = record { points = q ∷ w.points; next = w.next }

-- what is found at a position, with room for one more point than `room`, and then what follows for the room that is left
abbrev pub onwards : Option Point → ℕ → (ℕ → Walk) → Walk
onwards None room rest = rest (suc room)
onwards (Some q) room rest = found q (rest room)

-- k positions from p on, while there is room for a point
unfoldable pub walk : (ℕ → Option Point) → ℕ → ℕ → ℕ → Walk
walk at zero room p = record { points = []; next = p }
walk at (suc k) zero p = record { points = []; next = p }
walk at (suc k) (suc room) p = onwards (at p) room (λ left. walk at k left (suc p))

-- ---- the call: how many points, the position to go on from, and the lent buffer, which starts with their doubles and is untouched after them

unfoldable pub doubles : List Point → List Float
doubles [] = []
doubles (q ∷ qs) = q.x ∷ q.y ∷ q.z ∷ doubles qs

abbrev pub written : Walk → List Float → Outcome (List Float) Listing
written w out =
    outcome (done (record { count = length w.points; next = w.next })) (doubles w.points ++ drop (3 * length w.points) out)

-- k positions from p on, by what is found at each
unfoldable pub listing : (ℕ → Option Point) → ℕ → ℕ → List Float → Outcome (List Float) Listing
listing at k p out = written (walk at k (length out / 3) p) out

abbrev pub points_checks : ℕ → State → List Check
points_checks p g = finished_checks g ++ (5 when ltb (3 * size g.rec.sides) p ∷ [])

unfoldable pub points : ℕ → State → List Float → Outcome (List Float) Listing
points p g out = unless (points_checks p g) (untouched out) (listing (point_at g) (3 * size g.rec.sides - p) p out)

-- what holds where no check fails
pub record Listable (p : ℕ) (g : State) : Type 0 where
  pub ended : Ended g
  pub within : p ≤ 3 * size g.rec.sides
