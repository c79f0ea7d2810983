-- `passed`: v stands nowhere from first up to i.
use Prim.Native.Nat.{◌-◌}
use Rattle.loops.specs.Searches.{Passed}
use Rattle.loops.proofs.passed.Given as goal

abbrev pub invariant-loop-i : goal.invariant-loop-i
invariant-loop-i l = Passed l.bytes l.v l.first l.end l.i

abbrev pub decreases-loop-i : goal.decreases-loop-i
decreases-loop-i l = l.end - l.i
