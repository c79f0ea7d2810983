-- Lists of points by another rule are told from ours by case A.
use mathlib.Core.Path.{◌≡◌, refl, ap}
use mathlib.Core.Bool.{false}
use mathlib.Core.List.{List, [], ◌∷◌}
use Prim.Native.Nat.{ℕ}
use native.Mathlib.Omega.{arith}
use lib.IntN.{pos, negsuc}
use lib.Ieee.{Float, nan, inf, fin}
use Rattle.rules.specs.Checks.{first_failing}
use Rattle.rules.proofs.Answers.{answers}
use Rattle.surface.specs.declared.Point.{Point}
use Rattle.surface.proofs.Worked.{case_a, grid}
use Rattle.points.specs.Listing.{Walk}
use Rattle.points.specs.Wrong.{falling, WrongLists, PointsAnswer}
use Rattle.points.proofs.Worked.{points-rule}

-- the digits of the first point's z: of case A's six points the first lies at one half there, the last at three halves
digits : List Point → ℕ
digits [] = 0
digits (q ∷ qs) = of q.z
  where
    of : Float → ℕ
    of nan = 0
    of (inf s) = 0
    of (fin s m e) = m

pub wrong-lists : WrongLists
unfolding points-rule first_failing falling digits
wrong-lists =
    record {
      falling-order = λ h. let z : ◌≡◌ {A = ℕ} 1 3 = ap (λ (w : Walk). digits w.points) (h case_a 81 9 0) in omega arith;
      end_refused = λ h. let z : ◌≡◌ {A = ℕ} 0 5 = h 81 case_a in omega arith;
      position_first = λ h. let z : ◌≡◌ {A = ℕ} 9 5 = h 82 (grid false (negsuc 4) (pos 5)) in omega arith;
    }

pub points-answer : PointsAnswer
unfolding points-rule
points-answer = (case_a, answers _ 0 82 5 refl refl)
