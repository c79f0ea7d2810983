-- `fitness::working_refusal` meets its contract: the checks of a state, then number 8.
use mathlib.Core.Path.{refl, ◌∙◌}
use mathlib.Core.List.{List, [], ◌∷◌}
use Rattle.rules.specs.Checks.{Check, ◌when◌, first_failing}
use Rattle.rules.specs.Machine.{State, state, state_checks}
use Rattle.rules.proofs.Refusals.{handed_on, refused-before, passed-before}
use Rattle.fitness.proofs.working_refusal.Goals as goal
use Rattle.fitness.proofs.working_refusal.Goals.{Start}

abbrev lent-to : Start → State
lent-to c = state c.args.given c.args.dist.now c.args.status.now

-- what follows the checks of a state
abbrev last : State → List Check
last g = 8 when g.rec.finished ∷ []

pub returns-in_err-refusal : goal.returns-in_err-refusal
returns-in_err-refusal c =
    let g = lent-to (goal.at.returns-in_err-refusal c).Start in
    handed_on _ _ c.from_residual.ensures.1 ∙ refused-before (state_checks g) (last g) _ c.in_err-refusal.ensures

pub returns : goal.returns
unfolding first_failing
returns c =
    let g = lent-to (goal.at.returns c).Start in
    passed-before (state_checks g) (last g) refl c.in_ok-refusal.ensures _ c.worked_refusal.ensures
