-- `closing::quiet_refusal` meets its contract: the checks of a call that works, then number 13.
use mathlib.Core.Path.{◌≡◌, refl, sym, ◌∙◌}
use mathlib.Core.List.{[], ◌++◌}
use Prim.Native.Nat.{ℕ}
use Rattle.rules.specs.Machine.{state, working_checks, quiet_checks}
use Rattle.rules.specs.Status.{any_pending}
use Rattle.rules.specs.Checks.{first_failing}
use Rattle.rules.proofs.Checks.{fails-first, holds-first}
use Rattle.rules.proofs.Refusals.{handed_on, refused-before, passed, passed-before}
use Rattle.rules.proofs.Fit.{working}
use Rattle.fitness.proofs.Pending.{any-pending-is}
use Rattle.closing.proofs.quiet_refusal.Goals as goal
use Rattle.closing.proofs.quiet_refusal.Goals.{After-any_pending}

pub returns-in_err-working_refusal : goal.returns-in_err-working_refusal
returns-in_err-working_refusal c =
    let g = state c.args.given c.args.dist.now c.args.status.now in
    handed_on _ _ c.from_residual.ensures.1 ∙ refused-before (working_checks g) (quiet_checks g) _ c.in_err-working_refusal.ensures

-- the scan finds what the rule asks of a fit state
pending :
    (c : After-any_pending)
    → let g = state c.args.given c.args.dist.now c.args.status.now in c.any_pending.result ≡ any_pending g.rec.sides g.status
pending c =
    let g = state c.args.given c.args.dist.now c.args.status.now in
    let w = working g (passed (working_checks g) refl c.in_ok-working_refusal.ensures) in
    c.any_pending.ensures ∙ any-pending-is g w.fit.voxels.lent.statuses

behind :
    (c : After-any_pending)
    → let g = state c.args.given c.args.dist.now c.args.status.now in
    (n : ℕ) → n ≡ first_failing (quiet_checks g) → n ≡ first_failing (working_checks g ++ quiet_checks g)
behind c = passed-before _ _ refl c.in_ok-working_refusal.ensures

pub returns-then-any_pending : goal.returns-then-any_pending
returns-then-any_pending c =
    let at = goal.at.returns-then-any_pending c in
    behind at.After-any_pending 13 (sym (fails-first 13 _ [] (sym (pending at.After-any_pending) ∙ c.if-any_pending.true)))

pub returns : goal.returns
unfolding first_failing
returns c =
    let at = goal.at.returns c in
    behind at.After-any_pending 0 (sym (holds-first 13 _ [] (sym (pending at.After-any_pending) ∙ c.if-any_pending.false)))
