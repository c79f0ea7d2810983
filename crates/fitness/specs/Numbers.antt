-- Checks 1 and 2 by themselves.
use Rattle.std.specs.Prelude.{not, List, [], ◌∷◌}
use Rattle.rules.specs.Grid.{fit_sides}
use Rattle.rules.specs.Checks.{Check, ◌when◌}
use Rattle.rules.specs.Machine.{State, wrong_length}

abbrev pub lent_checks : State → List Check
lent_checks g =
    1 when not (fit_sides g.rec.sides)
    ∷ 2 when wrong_length g
    ∷ []
