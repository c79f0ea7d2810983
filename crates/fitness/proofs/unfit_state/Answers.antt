-- `fitness::unfit_state` meets its contract: the counts, then the voxels.
use mathlib.Core.Path.{sym, ◌∙◌}
use native.Mathlib.Omega.{arith}
use Rattle.rules.specs.Machine.{State, state}
use Rattle.rules.proofs.Places.{fit}
use Rattle.rules.proofs.Rows.{size-high}
use Rattle.fitness.proofs.Numbers.{counts-unfit, voxels-unfit}
use Rattle.fitness.proofs.unfit_state.Goals as goal
use Rattle.fitness.proofs.unfit_state.Goals.{Start}

abbrev lent-to : Start → State
lent-to c = state c.args.given c.args.dist.now c.args.status.now

pub unfit_counts-requires : goal.unfit_counts-requires
unfit_counts-requires c =
    (c.requires.statuses, omega (arith, c.requires.statuses, size-high c.args.given.sides (fit _ c.requires.sides)))

pub returns-then-unfit_counts : goal.returns-then-unfit_counts
returns-then-unfit_counts c = sym (counts-unfit (lent-to (goal.at.returns-then-unfit_counts c).Start) (sym c.unfit_counts.ensures ∙ c.if-unfit_counts.true))

pub returns : goal.returns
returns c =
    c.unfit_grid.ensures ∙ sym (voxels-unfit (lent-to (goal.at.returns c).Start) (sym c.unfit_counts.ensures ∙ c.if-unfit_counts.false))
