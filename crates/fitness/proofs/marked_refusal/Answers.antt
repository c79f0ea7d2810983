-- `fitness::marked_refusal` meets its contract: checks 1 and 2, the length of the marks, then 7, 29 and 8.
use mathlib.Core.Path.{◌≡◌, refl, sym, ◌∙◌}
use mathlib.Core.List.{[], ◌∷◌}
use borrow.Author.Tests.{lt-ltb, le-ltb}
use lib.Dec.{ltb}
use Rattle.rules.specs.Checks.{◌when◌, first_failing}
use Rattle.rules.specs.Fit.{Lent}
use Rattle.rules.specs.Marks.{stray_mark}
use Rattle.rules.specs.Machine.{state, marked_checks}
use Rattle.rules.proofs.Checks.{fails-first, holds-first}
use Rattle.rules.proofs.Refusals.{numbers, handed_on}
use Rattle.fitness.proofs.Numbers.{held-lent}
use Rattle.fitness.proofs.Marked.{rest, lent-refused, marks-refused, after-lengths, stray-marks}
use Rattle.fitness.proofs.marked_refusal.Goals as goal
use Rattle.fitness.proofs.marked_refusal.Goals.{After-worked_refusal, Else-marks-status, Else-unfit_state, In_ok-lent_refusal}

pub returns-in_err-lent_refusal : goal.returns-in_err-lent_refusal
returns-in_err-lent_refusal c =
    let a = c.args in
    handed_on _ _ c.from_residual.ensures.1
    ∙ lent-refused a.marks.now (state a.given a.dist.now a.status.now) _ c.in_err-lent_refusal.ensures (numbers c.in_err-lent_refusal.field-0.0)

-- past 1 and 2 without marks
right : (c : In_ok-lent_refusal) → let a = c.args in Lent a.given.sides a.dist.now a.status.now
right c = let a = c.args in held-lent (state a.given a.dist.now a.status.now) _ c.in_ok-lent_refusal.ensures refl

pub returns-then-marks-status : goal.returns-then-marks-status
returns-then-marks-status c =
    let a = c.args in
    sym (marks-refused a.marks.now (state a.given a.dist.now a.status.now) (right (goal.at.returns-then-marks-status c).In_ok-lent_refusal) c.if-marks-status.true)

pub unfit_state-requires : goal.unfit_state-requires
unfit_state-requires c = right (goal.at.unfit_state-requires c).In_ok-lent_refusal

-- past the lengths
behind : (c : Else-marks-status) → let a = c.args in let g = state a.given a.dist.now a.status.now in
    first_failing (marked_checks a.marks.now g) ≡ first_failing (rest a.marks.now g)
behind c =
    let a = c.args in
    after-lengths a.marks.now (state a.given a.dist.now a.status.now) (right (goal.at.unfit_state-requires c).In_ok-lent_refusal) c.if-marks-status.false

pub returns-then-unfit_state : goal.returns-then-unfit_state
returns-then-unfit_state c =
    sym (behind (goal.at.returns-then-unfit_state c).Else-marks-status ∙ fails-first 7 _ _ (sym c.unfit_state.ensures ∙ c.if-unfit_state.true))

-- past 7
past-fit : (c : Else-unfit_state) → let a = c.args in let g = state a.given a.dist.now a.status.now in
    first_failing (marked_checks a.marks.now g) ≡ first_failing (rest a.marks.now g)
    → first_failing (marked_checks a.marks.now g) ≡ first_failing (29 when stray_mark a.marks.now ∷ 8 when a.given.finished ∷ [])
past-fit c e = e ∙ holds-first 7 _ _ (sym c.unfit_state.ensures ∙ c.if-unfit_state.false)

stray : (c : Else-marks-status) → stray_mark c.args.marks.now ≡ ltb 3 c.args.all
stray c =
    let a = c.args in
    sym (stray-marks a.marks.now (state a.given a.dist.now a.status.now) (right (goal.at.unfit_state-requires c).In_ok-lent_refusal) c.if-marks-status.false a.all c.requires)

pub returns-then-all-gt3 : goal.returns-then-all-gt3
returns-then-all-gt3 c =
    let l = (goal.at.returns-then-all-gt3 c).Else-marks-status in
    sym (past-fit (goal.at.returns-then-all-gt3 c).Else-unfit_state (behind l) ∙ fails-first 29 _ _ (stray l ∙ lt-ltb _ _ c.if-all-gt3.true))

-- past 29
past-marks : (c : After-worked_refusal) → let a = c.args in
    first_failing (marked_checks a.marks.now (state a.given a.dist.now a.status.now)) ≡ first_failing (8 when a.given.finished ∷ [])
past-marks c =
    let l = (goal.at.returns c).Else-marks-status in
    past-fit (goal.at.returns c).Else-unfit_state (behind l) ∙ holds-first 29 _ _ (stray l ∙ le-ltb _ _ c.if-all-gt3.false)

pub returns : goal.returns
unfolding first_failing
returns c = c.worked_refusal.ensures ∙ sym (past-marks c)
