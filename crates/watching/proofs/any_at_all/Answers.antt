-- `watching::any_at_all` meets its contract: each voxel is asked until one passes.
use mathlib.Core.Path.{sym, ◌∙◌}
use native.Mathlib.Omega.{arith}
use Rattle.prelude.proofs.Ranges.{below-any, below_none}
use Rattle.rules.specs.Grid.{size, voxels}
use Rattle.rules.specs.Status.{is_kept}
use Rattle.rules.specs.Machine.{is_inside}
use Rattle.judging.specs.Judge.{can_pass, some_passes}
use Rattle.watching.proofs.any_at_all.Goals as goal

pub can_pass-requires : goal.can_pass-requires
can_pass-requires c = (c.requires, omega (arith, c.requires.body.statuses.lent, c.loop-j-test.true))

pub returns-then-can_pass : goal.returns-then-can_pass
unfolding some_passes voxels
returns-then-can_pass c =
    let a = c.args in
    sym (below-any (can_pass a.s (is_inside a.dist.now) (is_kept a.status.now)) (size a.s) c.loop-j.j (omega (arith, c.requires.body.statuses.lent, c.loop-j-test.true)) (sym c.can_pass.ensures ∙ c.if-can_pass.true))

pub returns : goal.returns
unfolding some_passes voxels
returns c =
    let a = c.args in
    sym (below_none (can_pass a.s (is_inside a.dist.now) (is_kept a.status.now)) (size a.s) (λ i h. c.loop-j.invariant i (omega (arith, c.requires.body.statuses.lent, h))))
