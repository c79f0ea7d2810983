-- `watching::any_around` meets its contract: the positions are asked one after the other.
use mathlib.Core.Path.{sym, ◌∙◌}
use native.Mathlib.Omega.{arith}
use Rattle.prelude.proofs.Ranges.{below-any, below_none}
use Rattle.watching.specs.Watching.{passes_around, any_around}
use Rattle.watching.proofs.any_around.Goals as goal

pub returns-then-passes_around : goal.returns-then-passes_around
unfolding any_around
returns-then-passes_around c =
    let a = c.args in
    sym (below-any (passes_around a.s a.dist.now a.status.now a.i) 27 c.loop-p.p c.loop-p-test.true (sym c.passes_around.ensures ∙ c.if-passes_around.true))

pub returns : goal.returns
unfolding any_around
returns c =
    let a = c.args in
    sym (below_none (passes_around a.s a.dist.now a.status.now a.i) 27 (λ p h. c.loop-p.invariant p (omega arith)))
