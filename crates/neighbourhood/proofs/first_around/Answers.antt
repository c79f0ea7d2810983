-- `neighbourhood::first_around` meets its contract.
use Prim.Native.Nat.{◌+◌, ◌*◌, ◌≤◌}
use native.Mathlib.Omega.{arith}
use Rattle.rules.proofs.Places.{fit}
use Rattle.neighbourhood.proofs.Interior.{layer-small, first_below}
use borrow.Author.Rules.{rules}
use Rattle.neighbourhood.proofs.first_around.Goals as goal
use Rattle.neighbourhood.proofs.first_around.Goals.{Start}

-- the row, the layer and the voxel itself come before it
before : (c : Start) → (c.args.s.a ≤ 64) × (1 + c.args.s.a + c.args.s.a * c.args.s.b ≤ c.args.i)
before c = let f = fit c.args.s c.requires.sides in (f.a-high, first_below c.args.s c.args.i c.requires)

pub overflow_add-result : goal.overflow_add-result
overflow_add-result c = record { fits = let b = before (goal.at.overflow_add-result c).Start in omega arith }

pub overflow_mul-result : goal.overflow_mul-result
overflow_mul-result c = record { fits = let l = layer-small c.args.s c.args.i c.requires in omega arith }

pub overflow_add-result-2 : goal.overflow_add-result-2
overflow_add-result-2 c = record { fits = let b = before (goal.at.overflow_add-result-2 c).Start in omega (arith, b.1) }

pub overflow_sub-result : goal.overflow_sub-result
overflow_sub-result c = let b = before (goal.at.overflow_sub-result c).Start in omega (arith, b.1)
