-- Crossing by computation: case A of document 01 after finish, distances as far apart as 32 bits allow, and each of its own numbers.
use mathlib.Core.Path.{◌≡◌, refl}
use mathlib.Core.Bool.{Bool, true, false}
use Rattle.std.specs.Prelude.{Option, None, Some}
use Prim.Native.Nat.{ℕ}
use lib.IntN.{ℤ, pos, negsuc}
use lib.Ieee.{Float, fin, add, sub, div, of_int}
use lib.ListN.{set, replicate}
use Rattle.prelude.specs.Lists.{any}
use Rattle.rules.specs.Grid.{fit_sides, size, index, voxel, range, voxels, on_border}
use Rattle.rules.specs.Checks.{unless}
use Rattle.rules.specs.Answer.{Reply, refused, done}
use Rattle.rules.specs.Machine.{State, state, is_inside, unfit_counts, unfit_voxel, unfit, wrong_length}
use Rattle.surface.specs.declared.Point.{Point}
use Rattle.surface.specs.Surface.{share, moved, point_from, crossing_of, next_index, crossing_at, no_next, crossing}

-- what the rule computes with
unfoldable grid-rule : Unit {0}
unfolding any fit_sides size index voxel range voxels on_border unless is_inside unfit_counts unfit_voxel unfit wrong_length
grid-rule = tt

unfoldable pub rule : Unit {0}
unfolding grid-rule share moved point_from crossing_of next_index crossing_at no_next crossing add sub div of_int
rule = tt

-- ---- 3 by 3 by 3, all 5 but the middle voxel and the one after it along z

abbrev pub grid : Bool → ℤ → ℤ → State
grid finished middle above =
    state (
    record {
      sides = record { a = 3; b = 3; c = 3 };
      allowed = 0;
      openings = 0;
      removals = 0;
      examinations = 0;
      euler = pos 1;
      finished = finished;
    }
    ) (set (set (replicate 27 (pos 5)) 13 middle) 22 above) (set (replicate 27 0) 13 1)

-- a double that is m * 2 ^ e
abbrev double : ℕ → ℤ → Float
double m e = fin false m e

abbrev pub one : Float
one = double 1 (pos 0)

abbrev point : Float → Float → Float → Reply (Option Point)
point x y z = done (Some (record { x = x; y = y; z = z }))

-- ---- case A, after finish

abbrev pub case_a : State
case_a = grid true (negsuc 4) (pos 5)

-- (1.5, 1, 1)
pub onwards : (crossing 13 0 case_a).answer ≡ point (double 3 (negsuc 0)) one one
unfolding rule
onwards = refl

-- (1, 0.5, 1), from a voxel that is not negative
pub backwards : (crossing 10 1 case_a).answer ≡ point one (double 1 (negsuc 0)) one
unfolding rule
backwards = refl

pub nowhere : (crossing 0 2 case_a).answer ≡ done None
unfolding rule
nowhere = refl

-- ---- other distances

-- 1 and 3: t is p / (p + q) and p the negative one's, so a quarter
pub quarter : (crossing 13 2 (grid true (negsuc 0) (pos 3))).answer ≡ point one one (double 5 (negsuc 1))
unfolding rule
quarter = refl

-- 5 and 10, from a voxel that is not negative: 1 - 2 / 3, which is not the double of 1 / 3
pub third : (crossing 4 2 (grid true (negsuc 9) (pos 5))).answer ≡ point one one (double 3002399751580331 (negsuc 52))
unfolding rule
third = refl

-- a distance of 0 is not negative: the point is the next voxel
pub zero-there : (crossing 13 2 (grid true (negsuc 4) (pos 0))).answer ≡ point one one (double 1 (pos 1))
unfolding rule
zero-there = refl

-- -2 ^ 31 and 2 ^ 31 - 1: 1.5 + 2 ^ -33
pub widest : (crossing 13 2 (grid true (negsuc 2147483647) (pos 2147483647))).answer ≡ point one one (double 12884901889 (negsuc 32))
unfolding rule
widest = refl

-- ---- its numbers, in order

pub unfinished : (crossing 27 3 (grid false (negsuc 4) (pos 5))).answer ≡ refused 9
unfolding rule
unfinished = refl

pub index-over : (crossing 27 3 case_a).answer ≡ refused 5
unfolding rule
index-over = refl

pub axis-over : (crossing 13 3 case_a).answer ≡ refused 6
unfolding rule
axis-over = refl

pub last-of-row : (crossing 14 0 case_a).answer ≡ refused 6
unfolding rule
last-of-row = refl

pub last-layer : (crossing 22 2 case_a).answer ≡ refused 6
unfolding rule
last-layer = refl
