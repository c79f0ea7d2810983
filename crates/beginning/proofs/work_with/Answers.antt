-- `work_with` leaves what the rule says with marks.
use Rattle.rules.specs.Fill.{filled}
use Rattle.beginning.proofs.FirstMarks.{worked-with}
use Rattle.beginning.proofs.work_with.Goals as goal

pub returns : goal.returns
returns c =
    worked-with c.args.sides (filled c.args.sides c.args.values.now) c.args.marks.now _ _ _ c.work_out.ensures
    c.mark_statuses.ensures
