-- `surface::coordinates_of` meets its contract.
use mathlib.Core.Path.{◌≡◌, ap}
use Prim.Native.Nat.{ℕ, ◌/◌, ◌%◌}
use native.Mathlib.Nat.{div-div-eq-div-mul}
use Rattle.rules.specs.Grid.{Voxel, voxel}
use Rattle.surface.proofs.Indices.{a-pos, b-pos, voxel-up-to}
use Rattle.surface.proofs.coordinates_of.Goals as goal

pub nonzero_div-row : goal.nonzero_div-row
nonzero_div-row c = a-pos c.args.sides c.requires.0

pub nonzero_rem-result : goal.nonzero_rem-result
nonzero_rem-result c = a-pos c.args.sides c.requires.0

pub nonzero_rem-result-2 : goal.nonzero_rem-result-2
nonzero_rem-result-2 c = b-pos c.args.sides c.requires.0

pub nonzero_div-result : goal.nonzero_div-result
nonzero_div-result c = b-pos c.args.sides c.requires.0

pub returns : goal.returns
unfolding voxel
returns c =
    let s = c.args.sides in
    let i = c.args.i in
    let e : ◌≡◌ {A = Voxel} (record { x = i % s.a; y = i / s.a % s.b; z = i / s.a / s.b }) (voxel s i) =
    ap (λ (z : ℕ). record { x = i % s.a; y = i / s.a % s.b; z = z }) (div-div-eq-div-mul i s.a s.b) in
    (e, voxel-up-to s c.requires.0 i _ c.requires.1 e)
