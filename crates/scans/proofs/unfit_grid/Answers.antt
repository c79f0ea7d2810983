-- `scans::unfit_grid` meets its contract: three scans make one.
use mathlib.Core.Path.{sym, ◌∙◌}
use Rattle.scans.proofs.Borders.{three-scans}
use Rattle.scans.proofs.unfit_grid.Goals as goal

pub used_border-requires : goal.used_border-requires
used_border-requires c = let p = c.requires in record { sides = p.sides; len = p.statuses }

pub unheld-requires : goal.unheld-requires
unheld-requires c = let p = c.requires in p.distances ∙ sym p.statuses

pub returns : goal.returns
returns c =
    let a = c.args in
    three-scans a.s a.dist.now a.status.now c.requires.statuses _ _ _
    c.unknown.ensures c.used_border.ensures c.unheld.ensures
