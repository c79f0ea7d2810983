-- `flood_open_gaps`: the untaken voxels below next have been visited.
use Rattle.gaps.proofs.OpenGaps.{flooded-more, flooded-end}
use Rattle.gaps.proofs.flood_open_gaps.Goals as goal

pub loop-i-preserved : goal.loop-i-preserved
loop-i-preserved c =
    let a = c.args in
    let l = c.loop-i in
    flooded-more a.offsets.now a.back a.label.now _ _ l.label l.work l.next l.invariant c.in-Some.i c.in-Some.ensures
    c.visit.new.label c.visit.new.work c.visit.ensures c.visit.auto.work

pub returns : goal.returns
returns c =
    let a = c.args in
    let l = c.loop-i in
    flooded-end a.offsets.now a.back a.label.now _ _ l.label l.work l.next l.invariant c.in_default.ensures
