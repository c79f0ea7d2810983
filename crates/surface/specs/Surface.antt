-- Document 01, "Surface points": crossing, and the bound on its changed coordinate, which document 02's CR 5 asks for over the longer range too.
use Rattle.std.specs.Prelude.{◌≡◌, Bool, true, false, ◌||◌, List, [], ◌∷◌, ◌++◌, ℕ, zero, suc, ◌+◌, ◌-◌, ◌*◌, ◌^◌, ◌≤◌, ◌<◌, leb, ltb, ℤ, pos, negsuc, Float, Option, None, Some}
use Rattle.std.specs.Float.{nan, inf, fin, binary64}
use Rattle.std.specs.Float.Ieee.{up, down, add, sub, div, of_int}
use Rattle.rules.specs.declared.Sides.{Sides}
use Rattle.rules.specs.Grid.{Voxel, voxel, index, size, fit_sides, gap, distance_at}
use Rattle.rules.specs.Checks.{Check, ◌when◌, unless}
use Rattle.rules.specs.Answer.{Reply, refused, done, Outcome, outcome, untouched, Buffers}
use Rattle.rules.specs.Machine.{State, lent_to, finished_checks}
use Rattle.rules.specs.Fit.{Ended}
use Rattle.surface.specs.declared.Point.{Point}
use Rattle.surface.specs.declared.Crossed.{Crossed}

-- ---- along an axis: 0, 1, 2 for x, y, z

abbrev pub along : {A : Type 0} → ℕ → A → A → A → A
along zero x y z = x
along (suc zero) x y z = y
along (suc (suc n)) x y z = z

abbrev pub coordinate : ℕ → Voxel → ℕ
coordinate axis v = along axis v.x v.y v.z

abbrev pub side : ℕ → Sides → ℕ
side axis s = along axis s.a s.b s.c

-- the voxel whose coordinate there is one higher
abbrev pub next : ℕ → Voxel → Voxel
next axis v =
    record { x = along axis (v.x + 1) v.x v.x; y = along axis v.y (v.y + 1) v.y; z = along axis v.z v.z (v.z + 1) }

-- ---- the point

-- a whole number as a double, exactly
abbrev pub whole : ℕ → Float
whole n = of_int binary64 (pos n)

-- t = p / (p + q), one double division
unfoldable pub share : ℕ → ℕ → Float
share p q = div binary64 (whole p) (whole (p + q))

-- towards the next voxel t is added, towards the one before it is subtracted; rounded once
unfoldable pub moved : Bool → ℕ → ℕ → ℕ → Float
moved true x p q = add binary64 (whole x) (share p q)
moved false x p q = sub binary64 (whole x) (share p q)

-- the coordinates of the negative voxel v, the one along the axis changed
unfoldable pub point_from : ℕ → Bool → Voxel → ℕ → ℕ → Point
point_from axis higher v p q =
    record {
      x = along axis (moved higher v.x p q) (whole v.x) (whole v.x);
      y = along axis (whole v.y) (moved higher v.y p q) (whole v.y);
      z = along axis (whole v.z) (whole v.z) (moved higher v.z p q);
    }

-- from v, of worked distance `here`, to the next voxel along the axis, of worked distance `there`
unfoldable pub crossing_of : ℕ → Voxel → ℤ → ℤ → Option Point
crossing_of axis v (negsuc p) (pos q) = Some (point_from axis true v (suc p) q)
crossing_of axis v (pos q) (negsuc p) = Some (point_from axis false (next axis v) (suc p) q)
crossing_of axis v (negsuc p) (negsuc q) = None
crossing_of axis v (pos p) (pos q) = None

-- the next voxel's index
unfoldable pub next_index : Sides → ℕ → ℕ → ℕ
next_index s i axis = index s (next axis (voxel s i))

unfoldable pub crossing_at : Sides → List ℤ → ℕ → ℕ → Option Point
crossing_at s dist i axis = crossing_of axis (voxel s i) (distance_at dist i) (distance_at dist (next_index s i axis))

-- ---- the call

-- the next voxel lies beyond the grid
unfoldable pub no_next : Sides → ℕ → ℕ → Bool
no_next s i axis = leb (side axis s) (coordinate axis (voxel s i) + 1)

abbrev pub next_checks : ℕ → ℕ → Sides → List Check
next_checks i axis s =
    5 when leb (size s) i
    ∷ 6 when (ltb 2 axis || no_next s i axis)
    ∷ []

abbrev pub crossing_checks : ℕ → ℕ → State → List Check
crossing_checks i axis g = finished_checks g ++ next_checks i axis g.rec.sides

unfoldable pub crossing : ℕ → ℕ → State → Outcome Buffers (Option Point)
crossing i axis g =
    unless (crossing_checks i axis g) (untouched (lent_to g)) (outcome (done (crossing_at g.rec.sides g.dist i axis)) (lent_to g))

abbrev pub crossed_answer : Crossed → Reply (Option Point)
crossed_answer Crossed.Nowhere = done None
crossed_answer (Crossed.At p) = done (Some p)
crossed_answer (Crossed.Refused n) = refused n

-- ---- what holds where no check fails, by name

-- the voxel of index i of a fit grid, and the one after it along the axis, lie in the grid
pub record HasNext (s : Sides) (i axis : ℕ) : Type 0 where
  pub fit : fit_sides s ≡ true
  pub here : i < size s
  pub there : coordinate axis (voxel s i) + 1 < side axis s

pub record Crossable (i axis : ℕ) (g : State) : Type 0 where
  pub ended : Ended g
  pub low : axis ≤ 2
  pub next : HasNext g.rec.sides i axis

-- ---- the bound, over whole numbers

-- r is a number, not negative, and |r - a / b| is at most 2 ^ -47, for a b above 0.
-- r is m * up e / down e, so with both denominators multiplied out: |m * up e * b - a * down e| * 2 ^ 47 ≤ down e * b.
abbrev pub Near : Float → ℕ → ℕ → Type 0
Near nan a b = ⊥
Near (inf s) a b = ⊥
Near (fin true m e) a b = ⊥
Near (fin false m e) a b = gap (m * up e * b) (a * down e) * 2 ^ 47 ≤ down e * b

-- x plus or minus p / (p + q), taken exactly and multiplied by p + q
abbrev pub exactly : Bool → ℕ → ℕ → ℕ → ℕ
exactly true x p q = x * (p + q) + p
exactly false x p q = x * (p + q) - p

-- the changed coordinate of a point, from two distances of which just one is negative
abbrev pub Bounded : ℕ → Voxel → ℤ → ℤ → Point → Type 0
Bounded axis v (negsuc p) (pos q) r = Near (along axis r.x r.y r.z) (exactly true (coordinate axis v) (suc p) q) (suc p + q)
Bounded axis v (pos q) (negsuc p) r = Near (along axis r.x r.y r.z) (exactly false (coordinate axis v + 1) (suc p) q) (suc p + q)
Bounded axis v (negsuc p) (negsuc q) r = ⊥
Bounded axis v (pos p) (pos q) r = ⊥

-- what crossing answers where it does not refuse: a point lies within the bound. The code ensures it of any two distances of 32 bits, and so of all
-- that begin can leave: document 02's CR 5, "The bound on surface points covers the longer range as well". LongRange.antt says it of whole grids.
abbrev pub BoundedAt : Sides → List ℤ → ℕ → ℕ → Option Point → Type 0
BoundedAt s dist i axis None = Unit
BoundedAt s dist i axis (Some r) = Bounded axis (voxel s i) (distance_at dist i) (distance_at dist (next_index s i axis)) r
