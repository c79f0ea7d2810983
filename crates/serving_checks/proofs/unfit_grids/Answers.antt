-- `serving_checks::unfit_grids` meets its contract: the grids before p are fit.
use mathlib.Core.Path.{sym, ◌∙◌}
use native.Mathlib.Omega.{arith}
use Rattle.prelude.proofs.Ranges.{below-any, below_none}
use Rattle.rules.specs.Machine.{unfit}
use Rattle.office.specs.Serve.{grid_at}
use Rattle.serving_checks.specs.Given.{grids_of}
use Rattle.serving_checks.proofs.unfit_grids.Goals as goal

pub returns-then-unfit_at : goal.returns-then-unfit_at
returns-then-unfit_at c =
    let a = c.args in
    sym (below-any (λ p. unfit (grid_at (grids_of a.g a.dist.now a.status.now) p)) a.g.count c.loop-p.p c.loop-p-test.true (sym c.unfit_at.ensures ∙ c.if-unfit_at.true))

pub returns : goal.returns
returns c =
    let a = c.args in
    sym (below_none (λ p. unfit (grid_at (grids_of a.g a.dist.now a.status.now) p)) a.g.count (λ p h. c.loop-p.invariant p (omega arith)))
