-- `flood_open_gaps`: the untaken voxels below next have been visited.
use Prim.Native.Nat.{◌-◌}
use lib.ListN.{length}
use Rattle.gaps.proofs.OpenGaps.{FloodedSoFar}
use Rattle.gaps.proofs.flood_open_gaps.Given as goal

abbrev pub invariant-loop-i : goal.invariant-loop-i
invariant-loop-i l = FloodedSoFar l.offsets l.back l.initial.label (length l.initial.work) l.n l.label l.work l.next

abbrev pub decreases-loop-i : goal.decreases-loop-i
decreases-loop-i l = l.n - l.next
