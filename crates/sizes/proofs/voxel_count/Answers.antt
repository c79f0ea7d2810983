-- `sizes::voxel_count` meets its contract: sides of 64 make 262,144.
use mathlib.Core.Path.{refl}
use Prim.Native.Nat.{◌*◌, ◌≤◌}
use native.Mathlib.Nat.{mul-le-mul}
use native.Mathlib.Omega.{arith}
use Rattle.rules.specs.Grid.{size}
use Rattle.rules.proofs.Places.{fit}
use Rattle.sizes.proofs.voxel_count.Goals as goal

pub overflow_mul-result : goal.overflow_mul-result
overflow_mul-result c =
    let a = c.args.s in
    let f = fit a c.requires in
    let ab : a.a * a.b ≤ 64 * 64 = mul-le-mul f.a-high f.b-high in
    record { fits = omega arith }

pub overflow_mul-result-2 : goal.overflow_mul-result-2
overflow_mul-result-2 c =
    let a = c.args.s in
    let f = fit a c.requires in
    let abc : a.a * a.b * a.c ≤ 64 * 64 * 64 = mul-le-mul (mul-le-mul f.a-high f.b-high) f.c-high in
    record { fits = omega arith }

pub returns : goal.returns
unfolding size
returns c =
    let a = c.args.s in
    let f = fit a c.requires in
    let abc : a.a * a.b * a.c ≤ 64 * 64 * 64 = mul-le-mul (mul-le-mul f.a-high f.b-high) f.c-high in
    (refl, omega arith)
