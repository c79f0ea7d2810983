-- `rounds::kept_voxels` meets its contract.
use Rattle.rounds.proofs.Counting.{Counting}
use Rattle.rounds.proofs.kept_voxels.Given as goal

abbrev pub invariant-loop-s : goal.invariant-loop-s
invariant-loop-s l = Counting l.status l.kept l.s-index
