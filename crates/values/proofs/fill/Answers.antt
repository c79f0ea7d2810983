-- `fill`: all the worked distances are written.
use native.Mathlib.Omega.{arith}
use Rattle.loops.proofs.InPlace.{each_all}
use Rattle.values.specs.Values.{worked_by}
use Rattle.values.proofs.fill.Goals as goal

pub returns : goal.returns
unfolding worked_by
returns c =
    let l = c.loop-i in
    each_all _ _ _ l.i c.args.dist.now l.dist c.requires.dist-len (omega (arith, c.requires.dist-len, c.loop-i-test.false)) l.invariant
