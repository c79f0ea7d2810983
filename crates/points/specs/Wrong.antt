-- Lists of points by another rule, each told from ours by case A. proofs/Wrong.antt shows it by computation.
use Rattle.std.specs.Prelude.{◌≡◌, [], ◌∷◌, ◌++◌, ℕ, zero, suc, ◌*◌, leb, ltb, Option, None, Some}
use Rattle.rules.specs.Grid.{size}
use Rattle.rules.specs.Checks.{◌when◌, first_failing}
use Rattle.rules.specs.Answer.{Answers}
use Rattle.rules.specs.Machine.{State, state_checks, finished_checks}
use Rattle.surface.specs.declared.Point.{Point}
use Rattle.points.specs.Listing.{Walk, walk, point_at, points_checks, points}

-- points in falling order of position
abbrev pub behind : Option Point → ℕ → (ℕ → Walk) → Walk
behind None room rest = rest (suc room)
behind (Some q) room rest = record { points = (rest room).points ++ (q ∷ []); next = (rest room).next }

unfoldable pub falling : (ℕ → Option Point) → ℕ → ℕ → ℕ → Walk
falling at zero room p = record { points = []; next = p }
falling at (suc k) zero p = record { points = []; next = p }
falling at (suc k) (suc room) p = behind (at p) room (λ left. falling at k left (suc p))

pub record WrongLists : Type 0 where
  pub falling-order : ((g : State) (k room p : ℕ) → walk (point_at g) k room p ≡ falling (point_at g) k room p) → ⊥
  -- the position after the last is none to go on from; a position too far before 9
  pub end_refused :
      ((p : ℕ) (g : State) → first_failing (points_checks p g) ≡ first_failing (finished_checks g ++ (5 when leb (3 * size g.rec.sides) p ∷ []))) → ⊥
  pub position_first :
      ((p : ℕ) (g : State)
      → first_failing (points_checks p g) ≡ first_failing (state_checks g ++ (5 when ltb (3 * size g.rec.sides) p ∷ finished_checks g))) → ⊥

-- points does not always refuse or give a constant
abbrev pub PointsAnswer : Type 0
PointsAnswer = (g : State) × (Answers (λ (p : ℕ). (points p g []).answer))
