-- What holds of a grid and a lent buffer of so many bytes where no check of write fails.
use Rattle.std.specs.Prelude.{◌≡◌, true, false, List, ℕ, ◌≤◌, length, ℤ}
use Rattle.prelude.specs.Lists.{any}
use Rattle.rules.specs.declared.Sides.{Sides}
use Rattle.rules.specs.Value.{stray}
use Rattle.rules.specs.Grid.{fit_sides, size}
use Rattle.format.specs.Written.{written_length}

pub record Room (s : Sides) (values : List ℤ) (lent : ℕ) : Type 0 where
  pub fits : fit_sides s ≡ true
  pub long : length values ≡ size s
  pub known : any stray values ≡ false
  pub room : written_length s values ≤ lent
