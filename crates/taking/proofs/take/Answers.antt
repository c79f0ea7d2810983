-- `taking::take` meets its contract: refused by the number, or done where there is none.
use mathlib.Core.Path.{refl}
use mathlib.Core.List.{List}
use Rattle.rules.specs.Marks.{marked}
use Rattle.rules.specs.Machine.{State, state, lent_to, may_go, take_checks, taken}
use Rattle.rules.specs.Machine as machine
use Rattle.rules.specs.Answer.{Outcome, untouched, Buffers, Removal}
use Rattle.rules.specs.Checks.{Check}
use Rattle.rules.proofs.Refusals.{passed, call-refused-by, call-passed}
use Rattle.rules.proofs.Fit.{takeable}
use Rattle.taking.proofs.take.Goals as goal
use Rattle.taking.proofs.take.Goals.{Start}

abbrev lent-to : Start → State
lent-to c = state c.args.given c.args.dist.now c.args.status.now

-- what is answered where no check fails, and the checks
abbrev worked : Start → Outcome Buffers Removal
worked c = taken (may_go (marked c.args.marks.now) (lent-to c).dist) c.args.index (lent-to c)

abbrev checks : Start → List Check
checks c = take_checks c.args.marks.now c.args.index (lent-to c)

pub returns-in-Err : goal.returns-in-Err
unfolding machine.take
returns-in-Err c =
    let s = (goal.at.returns-in-Err c).Start in
    rw c.from.ensures (call-refused-by (untouched (lent_to (lent-to s))) (worked s) (checks s) _ c.in-Err.ensures)

pub take_fit-requires : goal.take_fit-requires
take_fit-requires c =
    let s = (goal.at.take_fit-requires c).Start in
    takeable (lent-to s) c.args.marks.now c.args.index (passed (checks s) refl c.in-Ok.ensures)

pub returns-in-Ok : goal.returns-in-Ok
unfolding machine.take
returns-in-Ok c =
    let s = (goal.at.returns-in-Ok c).Start in
    call-passed (untouched (lent_to (lent-to s))) (worked s) (checks s) refl c.in-Ok.ensures _ c.take_fit.ensures
