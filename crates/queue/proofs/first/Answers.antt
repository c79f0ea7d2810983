-- `queue::first` meets its contract: the front is empty, or its first key is that of the voxel to examine next.
use native.Mathlib.Omega.{arith}
use Rattle.rules.specs.Marks.{marked}
use Rattle.queue.proofs.Choosing.{first-own, best-nothing, best-at}
use Rattle.queue.proofs.first.Goals as goal

pub returns-then-w-eq0 : goal.returns-then-w-eq0
returns-then-w-eq0 c =
    let a = c.args in
    best-nothing (marked a.marks.now) a.dist.now a.status.now a.offsets.now a.tree.now a.front.now a.head c.requires.queue
    c.if-w-eq0.true (c.requires.empty c.if-w-eq0.true)

pub voxel-requires : goal.voxel-requires
voxel-requires c =
    let a = c.args in
    let n = c.if-w-eq0.false in
    let v = first-own (marked a.marks.now) a.dist.now a.status.now a.offsets.now a.tree.now a.front.now a.head c.requires.queue
    (omega arith) in
    (omega arith, omega (arith, v.inside, c.requires.queue.lent.same))

pub returns-else-w-eq0 : goal.returns-else-w-eq0
returns-else-w-eq0 c =
    let a = c.args in
    let n = c.if-w-eq0.false in
    best-at (marked a.marks.now) a.dist.now a.status.now a.offsets.now a.tree.now a.front.now a.head c.requires.queue _
    (omega arith) c.voxel.ensures.0 c.voxel.ensures.1
