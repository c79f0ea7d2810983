-- Crossings by another rule: each gives another point, or another number, on some grid. proofs/Wrong.antt shows it by computation.
use Rattle.std.specs.Prelude.{◌≡◌, true, false, not, ◌||◌, List, [], ◌∷◌, ◌++◌, ℕ, suc, ◌+◌, leb, ltb, ℤ, pos, negsuc, Option, None, Some}
use Rattle.rules.specs.Grid.{Voxel, voxel, size}
use Rattle.rules.specs.Checks.{Check, ◌when◌, first_failing}
use Rattle.rules.specs.Answer.{Answers}
use Rattle.rules.specs.Machine.{State, state_checks, working_checks, finished_checks}
use Rattle.surface.specs.declared.Point.{Point}
use Rattle.surface.specs.Surface.{coordinate, side, next, point_from, crossing_of, no_next, next_checks, crossing_checks, crossing}

-- ---- the point

abbrev pub OtherPoint : (ℕ → Voxel → ℤ → ℤ → Option Point) → Type 0
OtherPoint other = ((axis : ℕ) (v : Voxel) (here there : ℤ) → crossing_of axis v here there ≡ other axis v here there) → ⊥

-- from the nearer voxel, 1 - t added, in place of t subtracted from the negative one
abbrev pub from_the_nearer : ℕ → Voxel → ℤ → ℤ → Option Point
from_the_nearer axis v (negsuc p) (pos q) = Some (point_from axis true v (suc p) q)
from_the_nearer axis v (pos q) (negsuc p) = Some (point_from axis true v q (suc p))
from_the_nearer axis v (negsuc p) (negsuc q) = None
from_the_nearer axis v (pos p) (pos q) = None

-- t is q / (p + q)
abbrev pub share_of_the_other : ℕ → Voxel → ℤ → ℤ → Option Point
share_of_the_other axis v (negsuc p) (pos q) = Some (point_from axis true v q (suc p))
share_of_the_other axis v (pos q) (negsuc p) = Some (point_from axis false (next axis v) q (suc p))
share_of_the_other axis v (negsuc p) (negsuc q) = None
share_of_the_other axis v (pos p) (pos q) = None

-- ---- its numbers: 1, 2, 7, 9, 5, 6

abbrev pub OtherChecks : (ℕ → ℕ → State → List Check) → Type 0
OtherChecks checks = ((i axis : ℕ) (g : State) → first_failing (crossing_checks i axis g) ≡ first_failing (checks i axis g)) → ⊥

abbrev pub index_check : ℕ → State → Check
index_check i g = 5 when leb (size g.rec.sides) i

pub record WrongCrossings : Type 0 where
  pub from-the-nearer : OtherPoint from_the_nearer
  pub share-of-the-other : OtherPoint share_of_the_other
  pub unfinished-is-8 : OtherChecks (λ i axis g. working_checks g ++ next_checks i axis g.rec.sides)
  pub unfinished-before-unfit : OtherChecks (λ i axis g. 9 when not g.rec.finished ∷ state_checks g ++ next_checks i axis g.rec.sides)
  pub index-before-unfinished :
      OtherChecks (λ i axis g. state_checks g ++ (index_check i g ∷ 9 when not g.rec.finished ∷ next_checks i axis g.rec.sides))
  pub axis-before-index :
      OtherChecks (λ i axis g. finished_checks g ++ (6 when (ltb 2 axis || no_next g.rec.sides i axis) ∷ index_check i g ∷ []))
  -- the last voxel of a row has one in the next row
  pub into-the-next-row :
      OtherChecks (λ i axis g. finished_checks g
      ++ (index_check i g ∷ 6 when (ltb 2 axis || ltb (side axis g.rec.sides) (coordinate axis (voxel g.rec.sides i) + 1)) ∷ []))

-- crossing does not always refuse or give a constant
abbrev pub CrossingAnswers : Type 0
CrossingAnswers = (g : State) × (Answers (λ (i : ℕ). (crossing i 0 g).answer))
