-- `examining::run` meets its contract: what remains to be carved gives the same end.
use mathlib.Core.Path.{refl}
use native.Mathlib.Omega.{arith}
use Rattle.rules.specs.Marks.{marked}
use Rattle.examining.proofs.Running.{running-start, running-filled, running_none, running-done, running-below, running-step}
use Rattle.examining.proofs.run.Goals as goal

pub loop-init : goal.loop-init
loop-init c =
    let a = c.args in
    (running-start a.s (marked a.marks.now) a.dist.now a.limit a.status.now a.offsets.now a.tree.now a.front.now a.first c.requires.0 c.requires.1, refl)

pub returns-in_default : goal.returns-in_default
returns-in_default c =
    let a = c.args in
    let l = c.loop in
    running_none a.s (marked a.marks.now) a.dist.now a.limit a.status.now a.offsets.now a.tree.now a.front.now l.status _ _ _ l.examined l.removed l.last _
    (running-filled l.invariant.0 c.filled-head.ensures.queue c.filled-head.auto.offsets c.filled-head.auto.tree c.filled-head.auto.front)
    c.in_default.ensures

pub examine-step-requires : goal.examine-step-requires
examine-step-requires c =
    let a = c.args in
    let l = c.loop in
    let b = c.in-Some.ensures in
    let k = running-filled l.invariant.0 c.filled-head.ensures.queue c.filled-head.auto.offsets c.filled-head.auto.tree c.filled-head.auto.front in (
      record {
        queue = k.queue;
        work = k.work;
        below = running-below a.s (marked a.marks.now) a.dist.now a.limit a.status.now a.offsets.now a.tree.now a.front.now l.status _ _ _ l.examined
            l.removed l.last _ k _ b;
        pending = b.pending _ refl;
        first = b.first _ refl;
      },
      c.requires.2,
    )

pub loop-preserved : goal.loop-preserved
loop-preserved c =
    let a = c.args in
    let l = c.loop in
    let k = running-filled l.invariant.0 c.filled-head.ensures.queue c.filled-head.auto.offsets c.filled-head.auto.tree c.filled-head.auto.front in (
      running-step a.s (marked a.marks.now) a.dist.now a.limit a.status.now a.offsets.now a.tree.now a.front.now l.status _ _ _ l.examined l.removed
          l.last _ k _ c.in-Some.ensures _ _ _ _ c.examine-step.result _ _ (omega (arith, l.invariant.1, c.loop-test.true)) c.examine-step.ensures
          c.later-last.ensures c.from-removed.ensures c.examine-step.auto.status c.examine-step.auto.offsets c.examine-step.auto.tree
          c.examine-step.auto.front,
      omega (arith, l.invariant.1),
    )

pub returns-after-loop : goal.returns-after-loop
returns-after-loop c =
    let a = c.args in
    let l = c.loop in
    running-done a.s (marked a.marks.now) a.dist.now a.limit a.status.now a.offsets.now a.tree.now a.front.now l.status l.offsets l.tree l.front
    l.examined l.removed l.last l.head l.invariant.0 (omega (arith, l.invariant.1, c.loop-test.false))
