-- `waking::offset` meets its contract.
use Prim.Native.Nat.{◌≤◌}
use native.Mathlib.Omega.{arith}
use Rattle.neighbourhood.specs.Neighbourhood.{offset}
use Rattle.neighbourhood.proofs.Interior.{offset-most}
use Rattle.waking.proofs.offset.Goals as goal
use Rattle.waking.proofs.offset.Goals.{Start}

bounds : (c : Start) → offset c.args.a c.args.l c.args.p ≤ 8322
bounds c = let p = c.requires in omega (arith, offset-most c.args.a c.args.l c.args.p p.below)

pub overflow_mul-result : goal.overflow_mul-result
overflow_mul-result c = record { fits = let b = bounds c in omega arith }

pub overflow_add-result : goal.overflow_add-result
overflow_add-result c = record { fits = let b = bounds c in omega arith }

pub overflow_mul-result-2 : goal.overflow_mul-result-2
overflow_mul-result-2 c = record { fits = let b = bounds c in omega arith }

pub overflow_add-result-2 : goal.overflow_add-result-2
overflow_add-result-2 c = record { fits = let b = bounds c in omega arith }
