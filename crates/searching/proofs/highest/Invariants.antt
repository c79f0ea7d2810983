-- `searching::highest` meets its contract: the loop has the first stretch of the greatest height before voxel i.
use mathlib.Core.Path.{◌≡◌}
use Prim.Native.Nat.{◌+◌, ◌-◌, ◌≤◌}
use lib.ListN.{length}
use Rattle.rules.specs.Marks.{marked}
use Rattle.searching.specs.Argmax.{key_at, Holding}
use Rattle.searching.proofs.highest.Given as goal

abbrev pub invariant-loop-i : goal.invariant-loop-i
invariant-loop-i l =
    (l.first ≡ 1 + l.a + l.l) × (l.end ≡ length l.status - l.first) × (l.first ≤ l.i) × (l.i ≤ l.end) × Holding (key_at (marked l.marks) l.dist l.status l.a l.l) l.first l.i l.best

abbrev pub decreases-loop-i : goal.decreases-loop-i
decreases-loop-i l = l.end - l.i
