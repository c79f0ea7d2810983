-- `push_each`: the offsets before this one have had their turn.
use native.Mathlib.Omega.{arith}
use Rattle.pushing.specs.Push.{fill_of}
use Rattle.pushing.proofs.Runs.{pushing-more, pushing-done}
use Rattle.floods.proofs.Offsets.{patches-next, patches-none}
use Rattle.floods.proofs.push_each.Goals as goal

pub loop-offset-preserved : goal.loop-offset-preserved
loop-offset-preserved c =
    let a = c.args in
    let l = c.loop-offset in
    pushing-more _ _ (fill_of l.label l.work l.end) _ _ _ _ (patches-next a.patch a.base a.offsets.now l.offset-index (omega arith)) l.invariant
    c.push_patch-end.ensures

pub returns : goal.returns
returns c =
    let a = c.args in
    let l = c.loop-offset in
    pushing-done _ _ (fill_of l.label l.work l.end) _ (patches-none a.patch a.base a.offsets.now l.offset-index (omega arith)) l.invariant
