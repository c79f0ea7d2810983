-- `carving::carve` meets its contract: refused by the number, or done where there is none.
use mathlib.Core.Path.{refl}
use Rattle.std.proofs.lemmas.Result.{err_from_is_err_and}
use Rattle.rules.specs.Answer.{untouched}
use Rattle.rules.specs.Marks.{marked}
use Rattle.rules.specs.Machine as machine
use Rattle.rules.specs.Machine.{State, state, lent_to, may_go, sooner, marked_checks, carved}
use Rattle.rules.proofs.Refusals.{passed, call-refused-by}
use Rattle.rules.proofs.Fit.{marking}
use Rattle.carving.proofs.carve.Goals as goal
use Rattle.carving.proofs.carve.Goals.{Start}

abbrev lent-to : Start → State
lent-to c = state c.args.given c.args.dist.now c.args.status.now

pub returns-in_err-marked_refusal : goal.returns-in_err-marked_refusal
unfolding machine.carve
returns-in_err-marked_refusal c =
    let m = c.args.marks.now in
    let g = lent-to (goal.at.returns-in_err-marked_refusal c).Start in
    let e = err_from_is_err_and c.from_residual.result c.from_residual.ensures.1 in
    rw (e.1, e.2)
    (call-refused-by (untouched (lent_to g)) (carved (may_go (marked m) g.dist) (sooner (marked m) g.dist) c.args.limit g) (marked_checks m g) _
    c.in_err-marked_refusal.ensures)

pub carve_checked-requires : goal.carve_checked-requires
carve_checked-requires c =
    let m = c.args.marks.now in
    let g = lent-to (goal.at.carve_checked-requires c).Start in
    (marking g m (passed (marked_checks m g) refl c.in_ok-marked_refusal.ensures), c.all-all.ensures)
