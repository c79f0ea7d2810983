-- Number 7 at a voxel in its three clauses, each for a scan of its own.
use Rattle.std.specs.Prelude.{Bool, not, ◌&&◌, ◌||◌, cond, List, ℕ, eqb, ℤ, pos}
use Rattle.rules.specs.declared.Sides.{Sides}
use Rattle.rules.specs.Grid.{on_border}
use Rattle.rules.specs.Status.{status_of}
use Rattle.rules.specs.Machine.{is_inside}

-- a status that is none of the three
unfoldable pub unknown_at : List ℕ → ℕ → Bool
unknown_at status i = not (eqb (status_of status i) 0 || (eqb (status_of status i) 1 || eqb (status_of status i) 3))

-- a status other than 0, and one on the border
unfoldable pub used_at : List ℕ → ℕ → Bool
used_at status i = not (eqb (status_of status i) 0)

unfoldable pub used_border_at : Sides → List ℕ → ℕ → Bool
used_border_at s status i = on_border s i && used_at status i

-- a negative distance whose status is not 1
unfoldable pub unheld_at : List ℤ → List ℕ → ℕ → Bool
unheld_at dist status i = is_inside dist i && not (eqb (status_of status i) 1)

-- the distance where it may not be negative, by the status
unfoldable pub held_up : ℤ → ℕ → ℤ
held_up d s = cond (eqb s 1) (pos 0) d
