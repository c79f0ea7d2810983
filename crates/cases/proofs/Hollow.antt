-- Two groups of negative voxels that a fill joins, by computation.
use mathlib.Core.Path.{refl}
use Rattle.rules.specs.Cases.{JoinedByFill}
use Rattle.rules.proofs.Cases.{all-rules}

pub joined-by-fill : JoinedByFill
unfolding all-rules
joined-by-fill = record { apart = refl; joined = refl }
