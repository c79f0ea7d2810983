-- `up`: the positions before q have had their turn.
use Rattle.std.proofs.Common.{ℕ, false, subst, arith}
use Rattle.sweeps.specs.Sweep.{position_of, Lowered}
use Rattle.sweeps.proofs.Sweeping.{sweeping-start, sweeping-more, run-before}
use Rattle.sweeps.proofs.up.Goals as goal

pub loop-q-init : goal.loop-q-init
loop-q-init c = sweeping-start c.args.st c.args.m c.args.at false c.args.d.now c.requires

pub loop-q-preserved : goal.loop-q-preserved
loop-q-preserved c =
    let a = c.args in
    let l = c.loop-q in
    sweeping-more a.st a.m a.at false a.d.now c.requires l.d l.q l.invariant (omega arith) c.lower.new.d
    (subst (λ (x : ℕ). Lowered (position_of a.at a.st a.m false l.q) x a.st l.d c.lower.new.d) (run-before a.at a.st l.q (omega arith)) c.lower.ensures)
