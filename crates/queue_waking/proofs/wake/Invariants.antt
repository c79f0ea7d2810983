-- `queue_waking::wake` meets its contract: the loop wakes the voxels at the bits that it has dropped.
use Rattle.rules.specs.Marks.{marked}
use Rattle.waking.specs.Waking.{from_voxel}
use Rattle.queue_waking.proofs.Calling.{Calling}
use Rattle.queue_waking.proofs.wake.Given as goal

abbrev pub invariant-loop-m : goal.invariant-loop-m
invariant-loop-m l =
    Calling (marked l.marks) l.dist l.idle (from_voxel l.a l.l l.at) l.initial.status l.initial.offsets l.initial.tree l.initial.front l.status l.offsets l.tree l.front l.first l.m

abbrev pub decreases-loop-m : goal.decreases-loop-m
decreases-loop-m l = l.m
