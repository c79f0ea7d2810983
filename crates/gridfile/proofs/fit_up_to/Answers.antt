-- `gridfile::fit_up_to` meets its contract.
use mathlib.Core.Path.{ap}
use mathlib.Core.Bool.{Bool, ◌&&◌}
use lib.Dec.{leb}
use Rattle.format.specs.File.{fit_up_to}
use Rattle.gridfile.proofs.fit_up_to.Goals as goal

pub returns : goal.returns
unfolding fit_up_to
returns c =
    let s = c.args.sides in
    let g = c.args.greatest in
    ap (λ (t : Bool). t && (leb s.a g && (leb s.b g && leb s.c g))) c.fit_sides.ensures
