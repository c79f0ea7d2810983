-- `queue_waking::wake` meets its contract: the loop wakes the voxels at the bits that it has dropped.
use mathlib.Core.Path.{◌≡◌, ap, ◌∙◌}
use mathlib.Core.List.{List}
use Prim.Native.Nat.{ℕ, ◌+◌, ◌<◌}
use native.Mathlib.Omega.{arith}
use lib.ListN.{get_or}
use lib.Dec.{lit<}
use Rattle.rules.specs.Marks.{marked}
use Rattle.bits.specs.Bits.{has}
use Rattle.waking.specs.Waking.{Callable, from_voxel}
use Rattle.waking.proofs.Idle.{has-beyond}
use Rattle.waking.proofs.Waking.{lowest-position, position-below}
use Rattle.queue_waking.specs.QueueWaking.{Near}
use Rattle.queue_waking.proofs.Calling.{calling-next, calling-done}
use Rattle.queue_waking.proofs.wake.Goals as goal

-- the voxel at a position
inside : (a l at idle n p : ℕ) (near : List ℕ) → Near a l near → Callable a l at idle n → p < 27 → at + get_or near p 0 < n
inside a l at idle n p near N C h = omega (arith, N.each p h, position-below a l at p n C.room h)

pub bounds-near-p : goal.bounds-near-p
bounds-near-p c =
    lowest-position c.args.idle c.loop-m.m c.lowest-p.result c.requires.bits.few c.loop-m.invariant.few c.lowest-p.ensures

pub overflow_add-at : goal.overflow_add-at
overflow_add-at c =
    let position = lowest-position c.args.idle c.loop-m.m c.lowest-p.result c.requires.bits.few c.loop-m.invariant.few c.lowest-p.ensures in
    record { fits = omega (arith, inside _ _ _ _ _ _ _ c.requires.near_by c.requires.bits position, c.requires.queue.lent.few) }

pub wake_one-first-requires : goal.wake_one-first-requires
wake_one-first-requires c =
    let v = c.loop-m.invariant in
    let position = lowest-position c.args.idle c.loop-m.m c.lowest-p.result c.requires.bits.few v.few c.lowest-p.ensures in
    (v.queue, omega (arith, v.statuses, inside _ _ _ _ _ _ _ c.requires.near_by c.requires.bits position))

pub loop-m-preserved : goal.loop-m-preserved
loop-m-preserved c =
    let a = c.args in
    let l = c.loop-m in
    let position = lowest-position a.idle l.m c.lowest-p.result c.requires.bits.few l.invariant.few c.lowest-p.ensures in
    calling-next (marked a.marks.now) a.dist.now a.idle (from_voxel a.a a.l a.at) a.status.now a.offsets.now a.tree.now
    a.front.now l.status l.offsets l.tree l.front _ _ _ _ l.first _ l.m c.lowest-p.result _ l.invariant c.lowest-p.ensures
    (ap (λ (x : ℕ). a.at + x) (c.requires.near_by.each _ position)) c.wake_one-first.ensures c.wake_one-first.auto.status c.wake_one-first.auto.offsets
    c.wake_one-first.auto.tree c.wake_one-first.auto.front

pub returns : goal.returns
returns c =
    let a = c.args in
    let l = c.loop-m in
    let z : l.m ≡ 0 = omega (arith, c.loop-m-test.false) in
    calling-done (marked a.marks.now) a.dist.now a.idle (from_voxel a.a a.l a.at) a.status.now a.offsets.now a.tree.now
    a.front.now l.status l.offsets l.tree l.front l.first l.m l.invariant
    (λ t. ap (λ (m : ℕ). has m t) z ∙ has-beyond 0 0 t (lit< tt) (omega arith))
