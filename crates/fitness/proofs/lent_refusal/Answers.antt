-- `fitness::lent_refusal` meets its contract: each return is a law of `Numbers`.
use mathlib.Core.Path.{◌≡◌, sym, ◌∙◌}
use mathlib.Core.Bool.{true}
use Rattle.rules.specs.Grid.{fit_sides}
use Rattle.rules.specs.Machine.{State, state}
use Rattle.rules.specs.Fit.{Lent}
use Rattle.rules.proofs.Checks.{hold-none}
use Rattle.fitness.specs.Numbers.{lent_checks}
use Rattle.fitness.proofs.Numbers.{sides-refused, length-refused, lent-holds}
use Rattle.fitness.proofs.lent_refusal.Goals as goal
use Rattle.fitness.proofs.lent_refusal.Goals.{Else-not-fit_sides, Else-status-n, Start}

abbrev lent-to : Start → State
lent-to c = state c.args.given c.args.dist.now c.args.status.now

pub returns-then-not-fit_sides : goal.returns-then-not-fit_sides
returns-then-not-fit_sides c =
    sym (sides-refused (lent-to (goal.at.returns-then-not-fit_sides c).Start) (sym c.fit_sides.ensures ∙ c.if-not-fit_sides.true))

fits : (c : Else-not-fit_sides) → fit_sides c.args.given.sides ≡ true
fits c = sym c.fit_sides.ensures ∙ c.if-not-fit_sides.false

pub voxel_count-n-requires : goal.voxel_count-n-requires
voxel_count-n-requires c = fits c

pub returns-then-dist-n : goal.returns-then-dist-n
returns-then-dist-n c =
    sym (length-refused (lent-to (goal.at.returns-then-dist-n c).Start) (fits (goal.at.returns-then-dist-n c).Else-not-fit_sides) (λ d s. c.if-dist-n.true (d ∙ sym c.voxel_count-n.ensures.0)))

pub returns-then-status-n : goal.returns-then-status-n
returns-then-status-n c =
    sym (length-refused (lent-to (goal.at.returns-then-status-n c).Start) (fits (goal.at.returns-then-status-n c).Else-not-fit_sides) (λ d s. c.if-status-n.true (s ∙ sym c.voxel_count-n.ensures.0)))

lent : (c : Else-status-n) → let a = c.args in Lent a.given.sides a.dist.now a.status.now
lent c =
    record { sides = fits (goal.at.returns c).Else-not-fit_sides; distances = c.if-dist-n.false ∙ c.voxel_count-n.ensures.0; statuses = c.if-status-n.false ∙ c.voxel_count-n.ensures.0 }

pub returns : goal.returns
returns c = sym (hold-none (lent_checks (lent-to (goal.at.returns c).Start)) (lent-holds (lent-to (goal.at.returns c).Start) (lent c)))
