-- `waking::wake` meets its contract: the loop wakes the voxels at the bits that it has dropped.
use mathlib.Core.Path.{◌≡◌}
use Prim.Native.Nat.{◌≤◌}
use lib.ListN.{length}
use Rattle.rules.specs.Marks.{marked}
use Rattle.rules.specs.Machine.{may_go}
use Rattle.waking.specs.Waking.{from_voxel}
use Rattle.waking.proofs.Waking.{Rousing}
use Rattle.waking.proofs.wake.Given as goal

abbrev pub invariant-loop-m : goal.invariant-loop-m
invariant-loop-m l =
    (l.m ≤ l.idle) × (length l.status ≡ length l.initial.status) × (Rousing (may_go (marked l.marks) l.dist) l.idle (from_voxel l.a l.l l.at) l.initial.status l.m l.status)

abbrev pub decreases-loop-m : goal.decreases-loop-m
decreases-loop-m l = l.m
