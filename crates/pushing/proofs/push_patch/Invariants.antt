-- `push_patch`: the rows before this one have had their turn.
use Rattle.pushing.specs.Push.{fill_of}
use Rattle.pushing.proofs.Runs.{Pushing, rows_from}
use Rattle.pushing.proofs.push_patch.Given as goal

abbrev pub invariant-loop-row : goal.invariant-loop-row
invariant-loop-row l =
    let p = l.patch in
    Pushing (rows_from p.wide p.rows p.step l.first 0) (fill_of l.initial.label l.initial.work l.initial.end) (fill_of l.label l.work l.end) (rows_from p.wide p.rows p.step l.first l.row)
