-- The rows of a grid lie within it, and its voxels are at most 64 * 64 * 64.
use Prim.Native.Nat.{ℕ, suc, ◌+◌, ◌-◌, ◌*◌, ◌≤◌, ◌<◌}
use native.Mathlib.Omega.{arith}
use native.Mathlib.Nat.{mul-le-mul, mul-le-mul_left, mul-suc, mul_assoc}
use Rattle.rules.specs.declared.Sides.{Sides}
use Rattle.rules.specs.Grid.{size}
use Rattle.rules.proofs.Places.{Fit}

pub row-end : (s : Sides) (y z : ℕ) → y < s.b → z < s.c → s.a * (y + s.b * z) + s.a ≤ size s
unfolding size
row-end s y z hy hz =
    let p : s.b * suc z ≤ s.b * s.c = mul-le-mul_left s.b hz in
    let t : ℕ = y + s.b * z in
    let q : suc t ≤ s.b * s.c = omega (arith, mul-suc s.b z) in
    let r : s.a * suc t ≤ s.a * (s.b * s.c) = mul-le-mul_left s.a q in
    omega (arith, mul-suc s.a t, mul_assoc s.a s.b s.c)

pub size-high : (s : Sides) → Fit s → size s ≤ 262144
unfolding size
size-high s f =
    let m : s.a * s.b * s.c ≤ 64 * 64 * 64 = mul-le-mul (mul-le-mul f.a-high f.b-high) f.c-high in
    omega arith
