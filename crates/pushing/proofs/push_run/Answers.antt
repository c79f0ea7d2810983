-- `push_run`: a run of which none is untaken, or all of them pushed.
use mathlib.Core.Path.{sym}
use native.Mathlib.Omega.{arith}
use Rattle.pushing.specs.Push.{fill_of}
use Rattle.pushing.proofs.Runs.{run-taken}
use Rattle.pushing.proofs.push_run.Goals as goal

pub returns-then-joined-eq0 : goal.returns-then-joined-eq0
returns-then-joined-eq0 c =
    let a = c.args in
    sym (run-taken (fill_of a.label.now a.work.now a.end) a.first a.wide c.joined.result c.joined.ensures
    (omega (arith, c.if-joined-eq0.true)))
