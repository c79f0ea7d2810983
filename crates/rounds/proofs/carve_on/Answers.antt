-- `rounds::carve_on` meets its contract.
use Rattle.rules.specs.Machine.{state, carve}
use Rattle.program.specs.Program.{no_limit, after_carve}
use Rattle.rounds.proofs.Answers.{after-answer}
use borrow.Author.Rules.{rules}
use Rattle.rounds.proofs.carve_on.Goals as goal

pub returns-in-Ok : goal.returns-in-Ok
unfolding after_carve
returns-in-Ok c =
    let e = c.in-Ok.is in
    let a = c.args in
    let d = a.dist.now in
    after-answer (λ r. r.next) _ d (carve a.marks.now no_limit (state a.given d a.status.now)) e c.carve.ensures

pub returns-in-Err : goal.returns-in-Err
unfolding after_carve
returns-in-Err c =
    let e = c.in-Err.is in
    let a = c.args in
    let d = a.dist.now in
    after-answer (λ r. r.next) _ d (carve a.marks.now no_limit (state a.given d a.status.now)) e c.carve.ensures
