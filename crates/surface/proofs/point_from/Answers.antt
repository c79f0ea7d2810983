-- `surface::point_from` meets its contract.
use mathlib.Core.Path.{◌≡◌}
use native.Mathlib.Omega.{arith}
use Rattle.surface.proofs.Axis.{point-x, point-y, point-z}
use Rattle.surface.specs.Coordinates.{voxel_of}
use Rattle.surface.proofs.point_from.Goals as goal

pub returns-in-0 : goal.returns-in-0
returns-in-0 c =
    let a = c.args in
    point-x a.axis a.higher (voxel_of a.v) a.p a.q _ c.in-0.is c.moved.ensures c.whole-2.ensures c.whole-3.ensures

pub returns-in-1 : goal.returns-in-1
returns-in-1 c =
    let a = c.args in
    point-y a.axis a.higher (voxel_of a.v) a.p a.q _ c.in-1.is c.whole.ensures c.moved-in-1.ensures c.whole-3.ensures

pub returns-in_default : goal.returns-in_default
returns-in_default c =
    let a = c.args in
    let not_x : a.axis ≡ 0 → ⊥ = omega arith in
    let not_y : a.axis ≡ 1 → ⊥ = omega arith in
    point-z a.axis a.higher (voxel_of a.v) a.p a.q _ not_x not_y c.whole.ensures c.whole-2.ensures c.moved-in_default.ensures
