-- `entries::put_back` meets its contract: the last of the entries that are left is put back.
use mathlib.Core.Path.{◌∙◌}
use native.Mathlib.Omega.{arith}
use Rattle.entries.proofs.Undoing.{undoing-next}
use Rattle.entries.proofs.put_back.Goals as goal

pub loop-r-preserved : goal.loop-r-preserved
loop-r-preserved c =
    let l = c.loop-r in
    undoing-next c.args.list.now l.status l.r c.index_of-i.result (omega (arith, c.loop-r-test.true)) c.index_of-i.ensures ∙ l.invariant
