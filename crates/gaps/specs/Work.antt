-- What the work on a grid may go by, where no check of begin fails.
use Rattle.std.specs.Prelude.{◌≡◌, List, ℕ, ℤ}
use Rattle.rules.specs.declared.Sides.{Sides}
use Rattle.rules.specs.Grid.{size}
use Rattle.rules.specs.Fit.{Beginnable}

-- a grid that begin accepts, and buffers of its size
pub record Accepted (s : Sides) (values : List ℤ) (dist status : ℕ) : Type 0 where
  pub grid : Beginnable s values
  pub dist-len : dist ≡ size s
  pub status-len : status ≡ size s
