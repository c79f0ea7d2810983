-- Crossings by another rule give another point, or another number: by computation, each on one input that tells the two apart.
use mathlib.Core.Path.{◌≡◌, refl, ap}
use mathlib.Core.Bool.{false}
use Rattle.std.specs.Prelude.{Option, None, Some}
use Prim.Native.Nat.{ℕ}
use native.Mathlib.Omega.{arith}
use lib.IntN.{pos, negsuc}
use lib.Ieee.{Float, nan, inf, fin}
use Rattle.rules.specs.Grid.{Voxel}
use Rattle.rules.specs.Checks.{first_failing}
use Rattle.rules.specs.Machine.{State, state, count}
use Rattle.rules.proofs.Answers.{answers}
use Rattle.surface.specs.declared.Point.{Point}
use Rattle.surface.specs.Wrong.{WrongCrossings, CrossingAnswers}
use Rattle.surface.proofs.Worked.{rule, grid, case_a}

-- the digits of a point's z
digits : Option Point → ℕ
digits None = 0
digits (Some p) = of p.z
  where
    of : Float → ℕ
    of nan = 0
    of (inf s) = 0
    of (fin s m e) = m

origin : Voxel
origin = record { x = 0; y = 0; z = 0 }

-- an opening more than are allowed, not finished
unfit-too : State
unfit-too = let g = grid false (negsuc 4) (pos 5) in state (count g.rec 0 0 1 (pos 0)) g.dist g.status

pub wrong-crossings : WrongCrossings
unfolding rule first_failing digits origin unfit-too
wrong-crossings =
    record {
      from-the-nearer = λ h. let z : ◌≡◌ {A = ℕ} 3002399751580331 6004799503160661 = ap digits (h 2 origin (pos 5) (negsuc 9)) in omega arith;
      share-of-the-other = λ h. let z : ◌≡◌ {A = ℕ} 1 3 = ap digits (h 2 origin (negsuc 0) (pos 3)) in omega arith;
      unfinished-is-8 = λ h. let z : ◌≡◌ {A = ℕ} 0 8 = h 13 0 case_a in omega arith;
      unfinished-before-unfit = λ h. let z : ◌≡◌ {A = ℕ} 7 9 = h 13 0 unfit-too in omega arith;
      index-before-unfinished = λ h. let z : ◌≡◌ {A = ℕ} 9 5 = h 27 0 (grid false (negsuc 4) (pos 5)) in omega arith;
      axis-before-index = λ h. let z : ◌≡◌ {A = ℕ} 5 6 = h 27 3 case_a in omega arith;
      into-the-next-row = λ h. let z : ◌≡◌ {A = ℕ} 6 0 = h 14 0 case_a in omega arith;
    }

pub crossing-answers : CrossingAnswers
unfolding rule
crossing-answers = (case_a, answers _ 13 27 5 refl refl)
