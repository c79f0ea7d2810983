-- `lower`: the first k voxels of the run are lowered.
use Rattle.sweeps.specs.Sweep.{Lowered}
use Rattle.sweeps.proofs.lower.Given as goal

abbrev pub invariant-loop-k : goal.invariant-loop-k
invariant-loop-k l = Lowered l.at l.from l.k l.initial.d l.d
