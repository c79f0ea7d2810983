-- `watching::can_pass` meets its contract.
use native.Mathlib.Omega.{arith}
use Rattle.rules.specs.Status.{test_at}
use Rattle.neighbourhood.proofs.Bodies.{kept-inner}
use Rattle.judging.specs.Judge.{can_pass}
use Rattle.watching.proofs.Standing.{stands-not, stands-so, stands-kept}
use Rattle.watching.proofs.can_pass.Goals as goal

pub stands-requires : goal.stands-requires
stands-requires c = let p = c.requires in (omega (arith, p.1, p.0.distances), omega (arith, p.1, p.0.body.statuses.lent))

pub returns-else-stands : goal.returns-else-stands
unfolding can_pass
returns-else-stands c = stands-not _ _ _ _ c.stands.ensures _ c.if-stands.false

pub passes_at-requires : goal.passes_at-requires
passes_at-requires c =
    let b = c.requires.0.body in
    (kept-inner _ _ b _ c.requires.1 (stands-kept _ _ _ _ c.stands.ensures c.if-stands.true), b.statuses)

pub returns-then-stands : goal.returns-then-stands
unfolding can_pass test_at
returns-then-stands c =
    rw c.passes_at.ensures (stands-so _ _ _ _ c.stands.ensures _ c.if-stands.true)
