-- `largest`: the components of the voxels below next are counted.
use Prim.Native.Nat.{◌-◌, ◌≤◌}
use lib.ListN.{length}
use Rattle.floods.specs.Flood.{spanned}
use Rattle.components.proofs.Searching.{Searched}
use Rattle.components.proofs.largest.Given as goal

abbrev pub invariant-loop-i : goal.invariant-loop-i
invariant-loop-i l =
    (l.longest.start ≤ l.longest.end)
    × Searched (spanned l.patch l.offsets) l.back l.initial.label (length l.initial.work) l.n l.label l.work l.end l.next l.longest.start (l.longest.end - l.longest.start)

abbrev pub decreases-loop-i : goal.decreases-loop-i
decreases-loop-i l = l.n - l.next
