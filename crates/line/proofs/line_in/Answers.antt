-- `line::line_in` meets its contract.
use mathlib.Core.Path.{ap, ◌∙◌}
use borrow.Author.Rules.{rules}
use Rattle.text.specs.Written.{printed}
use Rattle.line.proofs.Reading.{line_refused, printed-grid}
use Rattle.line.proofs.line_in.Goals as goal

pub returns-in_default : goal.returns-in_default
returns-in_default c =
    c.refused_line.ensures
    ∙ ap printed (line_refused _ _ _ _ c.read_up_to-answer.ensures c.requires.values _ _ c.in_default.is c.refusal_of.ensures)

pub returns : goal.returns
returns c =
    let lent = c.requires in
    printed-grid _ _ _ _ c.read_up_to-answer.ensures lent.values _ _ _ _ _ c.begun_line.ensures c.in-Ok.is lent.marks
    lent.distances lent.statuses
