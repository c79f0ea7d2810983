-- `down`: the positions from q on have had their turn, and the one before them.
use Rattle.std.proofs.Common.{true, ◌+◌, ◌-◌, ◌≤◌}
use Rattle.sweeps.proofs.Sweeping.{Sweeping}
use Rattle.sweeps.proofs.down.Given as goal

abbrev pub invariant-loop-q : goal.invariant-loop-q
invariant-loop-q l = (1 ≤ l.q) × Sweeping l.st l.m l.at true l.initial.d l.d (l.m + 1 - l.q)
