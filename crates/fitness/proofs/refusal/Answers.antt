-- `fitness::refusal` meets its contract: checks 1 and 2, then number 7.
use mathlib.Core.Path.{refl, sym, ◌∙◌}
use mathlib.Core.List.{List, [], ◌∷◌}
use Rattle.rules.specs.Checks.{Check, ◌when◌, first_failing}
use Rattle.rules.specs.Machine.{State, state, unfit}
use Rattle.rules.proofs.Checks.{fails-first, holds-first}
use Rattle.rules.proofs.Refusals.{handed_on, refused-before, passed-before}
use Rattle.fitness.specs.Numbers.{lent_checks}
use Rattle.fitness.proofs.Numbers.{held-lent}
use Rattle.fitness.proofs.refusal.Goals as goal
use Rattle.fitness.proofs.refusal.Goals.{Start}

abbrev lent-to : Start → State
lent-to c = let a = c.args in state a.given a.dist.now a.status.now

-- what follows 1 and 2
abbrev last : State → List Check
last g = 7 when unfit g ∷ []

pub returns-in_err-lent_refusal : goal.returns-in_err-lent_refusal
returns-in_err-lent_refusal c =
    let g = lent-to (goal.at.returns-in_err-lent_refusal c).Start in
    handed_on _ _ c.from_residual.ensures.1 ∙ refused-before (lent_checks g) (last g) _ c.in_err-lent_refusal.ensures

pub unfit_state-requires : goal.unfit_state-requires
unfit_state-requires c = held-lent (lent-to (goal.at.unfit_state-requires c).Start) _ c.in_ok-lent_refusal.ensures refl

pub returns-then-unfit_state : goal.returns-then-unfit_state
returns-then-unfit_state c =
    let g = lent-to (goal.at.returns-then-unfit_state c).Start in
    passed-before (lent_checks g) (last g) refl c.in_ok-lent_refusal.ensures 7
    (sym (fails-first 7 _ [] (sym c.unfit_state.ensures ∙ c.if-unfit_state.true)))

pub returns : goal.returns
unfolding first_failing
returns c =
    let g = lent-to (goal.at.returns c).Start in
    passed-before (lent_checks g) (last g) refl c.in_ok-lent_refusal.ensures 0
    (sym (holds-first 7 _ [] (sym c.unfit_state.ensures ∙ c.if-unfit_state.false)))
