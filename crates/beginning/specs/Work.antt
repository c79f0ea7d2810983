-- What the work on a grid leaves.
use Rattle.std.specs.Prelude.{◌≡◌, List, ℕ, ℤ}
use Rattle.rules.specs.declared.Sides.{Sides}
use Rattle.rules.specs.Marks.{Marked}
use Rattle.rules.specs.Begin.{inside, in_box, worked, start_status}
use Rattle.distances.specs.Work.{Measured}

-- steps 1 to 3: the worked distances, and the steps to S
pub record Distanced (s : Sides) (values dist : List ℤ) (status : List ℕ) : Type 0 where
  pub distances : dist ≡ worked s values (inside s values)
  pub steps : Measured s (inside s values) status

-- all four
pub record WorkedOut (s : Sides) (m : Marked) (values dist : List ℤ) (status : List ℕ) : Type 0 where
  pub distances : dist ≡ worked s values (inside s values)
  pub statuses : status ≡ start_status s m (inside s values) (in_box s (inside s values))
