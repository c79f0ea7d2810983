-- `rounds::finish_on` meets its contract.
use Rattle.program.specs.Program.{after_finish}
use Rattle.rounds.proofs.Answers.{after-answer}
use borrow.Author.Rules.{rules}
use Rattle.rounds.proofs.finish_on.Goals as goal

pub returns-in-Ok : goal.returns-in-Ok
unfolding after_finish
returns-in-Ok c =
    after-answer (λ r. r) _ c.finish.new.dist _ c.in-Ok.is c.finish.ensures

pub returns-in-Err : goal.returns-in-Err
unfolding after_finish
returns-in-Err c =
    after-answer (λ r. r) _ c.finish.new.dist _ c.in-Err.is c.finish.ensures
