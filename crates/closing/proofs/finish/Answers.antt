-- `closing::finish` meets its contract: refused by the number, or done where there is none.
use mathlib.Core.Path.{refl}
use Rattle.std.proofs.lemmas.Result.{err_from_is_err_and}
use Rattle.rules.specs.Machine.{State, state, lent_to, finish_checks, finished_of}
use Rattle.rules.specs.Machine as machine
use Rattle.rules.specs.Answer.{untouched}
use Rattle.rules.proofs.Refusals.{passed, call-refused-by, call-passed}
use Rattle.rules.proofs.Fit.{quiet}
use Rattle.closing.proofs.finish.Goals as goal
use Rattle.closing.proofs.finish.Goals.{Start}

abbrev lent-to : Start → State
lent-to c = state c.args.given c.args.dist.now c.args.status.now

pub returns-in_err-quiet_refusal : goal.returns-in_err-quiet_refusal
unfolding machine.finish
returns-in_err-quiet_refusal c =
    let g = lent-to (goal.at.returns-in_err-quiet_refusal c).Start in
    let e = err_from_is_err_and c.from_residual.result c.from_residual.ensures.1 in
    rw (e.1, e.2) (call-refused-by (untouched (lent_to g)) (finished_of g) (finish_checks g) _ c.in_err-quiet_refusal.ensures)

pub finish_fit-requires : goal.finish_fit-requires
finish_fit-requires c =
    let g = lent-to (goal.at.finish_fit-requires c).Start in
    (quiet g (passed (finish_checks g) refl c.in_ok-quiet_refusal.ensures)).working.fit.voxels.lent

pub returns : goal.returns
unfolding machine.finish
returns c =
    let g = lent-to (goal.at.returns c).Start in
    call-passed (untouched (lent_to g)) (finished_of g) (finish_checks g) refl c.in_ok-quiet_refusal.ensures _ c.finish_fit.ensures
