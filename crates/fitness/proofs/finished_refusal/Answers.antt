-- `fitness::finished_refusal` meets its contract: the checks of a state, then number 9.
use mathlib.Core.Path.{refl, sym, ap, ◌∙◌}
use mathlib.Core.Bool.{not}
use mathlib.Core.List.{List, [], ◌∷◌}
use Rattle.rules.specs.Checks.{Check, ◌when◌, first_failing}
use Rattle.rules.specs.Machine.{State, state, state_checks}
use Rattle.rules.proofs.Checks.{fails-first, holds-first}
use Rattle.rules.proofs.Refusals.{handed_on, refused-before, passed-before}
use Rattle.fitness.proofs.finished_refusal.Goals as goal
use Rattle.fitness.proofs.finished_refusal.Goals.{Start}

abbrev lent-to : Start → State
lent-to c = state c.args.given c.args.dist.now c.args.status.now

-- what follows the checks of a state
abbrev last : State → List Check
last g = 9 when not g.rec.finished ∷ []

pub returns-in_err-refusal : goal.returns-in_err-refusal
returns-in_err-refusal c =
    let g = lent-to (goal.at.returns-in_err-refusal c).Start in
    handed_on _ _ c.from_residual.ensures.1 ∙ refused-before (state_checks g) (last g) _ c.in_err-refusal.ensures

pub returns-then-given : goal.returns-then-given
unfolding first_failing
returns-then-given c =
    let g = lent-to (goal.at.returns-then-given c).Start in
    passed-before (state_checks g) (last g) refl c.in_ok-refusal.ensures 0 (sym (holds-first 9 _ [] (ap not c.if-given.true)))

pub returns : goal.returns
returns c =
    let g = lent-to (goal.at.returns c).Start in
    passed-before (state_checks g) (last g) refl c.in_ok-refusal.ensures 9 (sym (fails-first 9 _ [] (ap not c.if-given.false)))
