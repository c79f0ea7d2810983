-- `block_row`: the sides are few.
use Prim.Native.Nat.{ℕ, ◌+◌, ◌*◌, ◌/◌, ◌≤◌}
use native.Mathlib.Omega.{arith}
use native.Mathlib.Nat.{mul-le-mul}
use borrow.Author.Rules.{rules}
use Rattle.splitting.specs.Split.{Small, block_row}
use Rattle.rules.specs.declared.Sides.{Sides}
use Rattle.splitting.proofs.block_row.Goals as goal

rows_few : (s : Sides) (y z : ℕ) → Small s y z → s.b / 2 * z ≤ 2048
rows_few s y z m = omega (arith, mul-le-mul (let t : s.b / 2 ≤ 32 = omega (arith, m.b-few) in t) m.z-few)

row-few : (s : Sides) (y z : ℕ) → Small s y z → block_row s y z ≤ 67584
row-few s y z m =
    omega (
      arith,
      mul-le-mul (let t : s.a / 2 ≤ 32 = omega (arith, m.a-few) in t) (let t : y + s.b / 2 * z ≤ 2112 = omega (arith, m.y-few, rows_few s y z m) in t),
    )

pub overflow_mul-result : goal.overflow_mul-result
overflow_mul-result c = let q = rows_few c.args.s c.args.y c.args.z c.requires in search rules

pub overflow_add-result : goal.overflow_add-result
overflow_add-result c = let q = rows_few c.args.s c.args.y c.args.z c.requires in search rules

pub overflow_mul-result-2 : goal.overflow_mul-result-2
overflow_mul-result-2 c = let q = row-few c.args.s c.args.y c.args.z c.requires in search rules
