-- What the functions of open ask of each other.
use Rattle.std.specs.Prelude.{◌≡◌, List, [], ◌∷◌, ◌++◌, ℕ, eqb, Some}
use Rattle.rules.specs.Checks.{Check, ◌when◌}
use Rattle.rules.specs.Marks.{marked}
use Rattle.rules.specs.Machine.{State, may_go, to_open, marked_checks, quiet_checks}
use Rattle.rules.specs.Fit.{Working}

-- open's checks up to 14; 15 needs the search
abbrev pub spent_checks : List ℕ → State → List Check
spent_checks marks g = marked_checks marks g ++ (quiet_checks g ++ (14 when eqb g.rec.openings g.rec.allowed ∷ []))

-- a state of which voxel i is the one to open
pub record OpensAt (marks : List ℕ) (i : ℕ) (g : State) : Type 0 where
  pub working : Working g
  pub left : g.rec.openings ≡ g.rec.allowed → ⊥
  pub found : to_open (may_go (marked marks) g.dist) g ≡ Some i
