-- `opening::open_refusal` meets its contract: the checks with marks, then 13 and 14.
use mathlib.Core.Bool.{Bool, false}
use mathlib.Core.List.{List, [], ◌∷◌, ◌++◌}
use Prim.Native.Nat.{ℕ}
use mathlib.Core.Path.{◌≡◌, refl, sym, ◌∙◌}
use borrow.Author.Tests.{eq-eqb, ne_eqb}
use lib.Dec.{eqb}
use Rattle.rules.specs.Status.{any_pending}
use Rattle.rules.specs.Machine.{State, state, marked_checks, quiet_checks}
use Rattle.rules.specs.Checks.{Check, ◌when◌, first_failing}
use Rattle.rules.proofs.Checks.{fails-first, holds-first}
use Rattle.rules.proofs.Refusals.{handed_on, refused-before, passed, passed-before}
use Rattle.rules.proofs.Fit.{marking}
use Rattle.fitness.proofs.Pending.{any-pending-is}
use Rattle.opening.proofs.open_refusal.Goals as goal
use Rattle.opening.proofs.open_refusal.Goals.{After-any_pending, In_ok-marked_refusal}

-- what follows the checks with marks
abbrev spent : State → List Check
spent g = 14 when eqb g.rec.openings g.rec.allowed ∷ []

abbrev last : State → List Check
last g = quiet_checks g ++ spent g

pub returns-in_err-marked_refusal : goal.returns-in_err-marked_refusal
returns-in_err-marked_refusal c =
    let g = state c.args.given c.args.dist.now c.args.status.now in
    handed_on _ _ c.from_residual.ensures.1 ∙ refused-before (marked_checks c.args.marks.now g) (last g) _ c.in_err-marked_refusal.ensures

-- the scan finds what the rule asks of a fit state
pending :
    (c : After-any_pending)
    → let g = state c.args.given c.args.dist.now c.args.status.now in c.any_pending.result ≡ any_pending g.rec.sides g.status
pending c =
    let g = state c.args.given c.args.dist.now c.args.status.now in
    let m = marking g c.args.marks.now (passed (marked_checks c.args.marks.now g) refl c.in_ok-marked_refusal.ensures) in
    c.any_pending.ensures ∙ any-pending-is g m.working.fit.voxels.lent.statuses

behind :
    (c : In_ok-marked_refusal)
    → let g = state c.args.given c.args.dist.now c.args.status.now in
    (n : ℕ) → n ≡ first_failing (last g) → n ≡ first_failing (marked_checks c.args.marks.now g ++ last g)
behind c =
    let g = state c.args.given c.args.dist.now c.args.status.now in
    passed-before (marked_checks c.args.marks.now g) (last g) refl c.in_ok-marked_refusal.ensures

pub returns-then-any_pending : goal.returns-then-any_pending
returns-then-any_pending c =
    let at = goal.at.returns-then-any_pending c in
    behind at.In_ok-marked_refusal 13 (sym (fails-first 13 _ _ (sym (pending at.After-any_pending) ∙ c.if-any_pending.true)))

-- what is left to check where nothing is pending: 14
left :
    (g : State) {b : Bool}
    → b ≡ any_pending g.rec.sides g.status
    → b ≡ false
    → first_failing (last g) ≡ first_failing (spent g)
left g p f = holds-first 13 _ _ (sym p ∙ f)

pub returns-then-given-from : goal.returns-then-given-from
returns-then-given-from c =
    let at = goal.at.returns-then-given-from c in
    let g = state c.args.given c.args.dist.now c.args.status.now in
    behind at.In_ok-marked_refusal 14 (sym (left g (pending at.After-any_pending) c.if-any_pending.false ∙ fails-first 14 _ [] (eq-eqb _ _ (c.if-given-from.true ∙ c.from.ensures))))

pub returns : goal.returns
unfolding first_failing
returns c =
    let at = goal.at.returns c in
    let g = state c.args.given c.args.dist.now c.args.status.now in
    behind at.In_ok-marked_refusal 0 (sym (left g (pending at.After-any_pending) c.if-any_pending.false ∙ holds-first 14 _ [] (ne_eqb _ _ (λ e. c.if-given-from.false (e ∙ sym c.from.ensures)))))
