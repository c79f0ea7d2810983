-- `push_all`: the voxels of the run before j have had their turn.
use mathlib.Core.List.{[], ◌∷◌}
use Prim.Native.Nat.{◌+◌, ◌-◌}
use native.Mathlib.Omega.{arith}
use Rattle.rules.specs.Grid.{range}
use Rattle.pushing.specs.Push.{fill_of, push_all}
use Rattle.pushing.proofs.Runs.{pushing-more, pushing-done, range-next, run_none}
use Rattle.pushing.proofs.push_all.Goals as goal

pub loop-j-preserved : goal.loop-j-preserved
unfolding push_all
loop-j-preserved c =
    let a = c.args in
    let j = c.loop-j.j in
    let end = a.first + a.wide in
    pushing-more (range a.first a.wide) _ (fill_of c.loop-j.label c.loop-j.work c.loop-j.end) _ _ (j ∷ []) _
    (range-next j (j + 1) (end - j) (end - (j + 1)) (omega arith) (omega arith))
    c.loop-j.invariant c.push-end.ensures

pub returns : goal.returns
returns c =
    pushing-done _ _ (fill_of c.loop-j.label c.loop-j.work c.loop-j.end) _ (run_none c.loop-j.j _ (omega arith)) c.loop-j.invariant
