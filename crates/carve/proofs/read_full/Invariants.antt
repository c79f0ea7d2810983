-- `carve::read_full`: the loop never goes beyond the buffer's end, and each turn that goes on brings it nearer.
use Rattle.std.specs.Prelude.{length, ◌≤◌, ◌-◌}
use Rattle.carve.proofs.read_full.Given as goal

abbrev pub invariant-loop-done : goal.invariant-loop-done
invariant-loop-done g l = l.done ≤ length l.buffer

abbrev pub decreases-loop-done : goal.decreases-loop-done
decreases-loop-done g l = length l.buffer - l.done
