-- `kinds`: the voxels before k are labelled.
use Rattle.std.proofs.Common.{◌≡◌, ℕ, ◌<◌, get_or}
use lib.IntN.{pos}
use Rattle.labels.specs.Labels.{kind_of}
use Rattle.labels.proofs.kinds.Given as goal

abbrev pub invariant-loop-k : goal.invariant-loop-k
invariant-loop-k l = (i : ℕ) → i < l.k → get_or l.label i 0 ≡ kind_of (get_or l.values i (pos 0))
