-- `neighbourhood::row` meets its contract: three voxels side by side.
use Prim.Native.Nat.{◌+◌, ◌≤◌}
use native.Mathlib.Omega.{arith}
use borrow.Author.Rules.{rules}
use Rattle.rules.specs.Status.{status_of}
use Rattle.neighbourhood.proofs.Gathering.{row-sum}
use Rattle.neighbourhood.proofs.row.Goals as goal
use Rattle.neighbourhood.proofs.row.Goals.{After-shared_slice_known-3-1}

small : (c : After-shared_slice_known-3-1) → let x = status_of c.args.status.now in (x c.args.at ≤ 3) × (x (c.args.at + 1) ≤ 3) × (x (c.args.at + 2) ≤ 3)
small c = let few = c.requires.1 in (few c.args.at, few (c.args.at + 1), few (c.args.at + 2))

pub overflow_mul-result : goal.overflow_mul-result
overflow_mul-result c = record { fits = let few = small c in omega arith }

pub overflow_add-result-3 : goal.overflow_add-result-3
overflow_add-result-3 c = record { fits = let few = small c in omega arith }

pub overflow_mul-result-2 : goal.overflow_mul-result-2
overflow_mul-result-2 c = record { fits = let few = small c in omega arith }

pub overflow_add-result-4 : goal.overflow_add-result-4
overflow_add-result-4 c = record { fits = let few = small c in omega arith }

pub returns : goal.returns
returns c = row-sum c.args.status.now c.args.at c.requires.1
