-- `surface::stride` meets its contract.
use mathlib.Core.Path.{sym, subst}
use native.Mathlib.Omega.{arith}
use Prim.Native.Nat.{ℕ, ◌≤◌}
use Rattle.surface.proofs.Indices.{ab-le, stride-le}
use Rattle.surface.proofs.stride.Goals as goal

pub overflow_mul-sides : goal.overflow_mul-sides
overflow_mul-sides c = omega (arith, ab-le c.args.sides c.requires)

pub returns : goal.returns
returns c =
    (c.along.ensures, subst (λ (n : ℕ). n ≤ 4096) (sym c.along.ensures) (stride-le c.args.sides c.requires c.args.axis))
