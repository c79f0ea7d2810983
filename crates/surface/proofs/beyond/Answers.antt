-- `surface::beyond` meets its contract.
use mathlib.Core.Path.{sym, ap, ap₂, ◌∙◌}
use mathlib.Core.Bool.{Bool, ◌||◌}
use borrow.Author.Tests.{le-ltb}
use Prim.Native.Nat.{ℕ, ◌+◌}
use native.Mathlib.Omega.{arith}
use lib.Dec.{leb}
use Rattle.rules.specs.Grid.{Voxel}
use Rattle.surface.specs.Surface.{coordinate, no_next}
use Rattle.surface.proofs.Axis.{along-le}
use Rattle.surface.proofs.beyond.Goals as goal

pub overflow_add-result : goal.overflow_add-result
overflow_add-result c =
    let v = c.coordinates_of-v.result in
    let h = c.coordinates_of-v.ensures.1 in
    omega (arith, along-le c.args.axis v.x v.y v.z 63 h.x-le h.y-le h.z-le)

pub returns-else-axis-gt2 : goal.returns-else-axis-gt2
unfolding no_next
returns-else-axis-gt2 c =
    let axis = c.args.axis in
    ap₂ (λ (m n : ℕ). leb m (n + 1)) c.along-end.ensures
    (c.along-at.ensures ∙ ap (λ (v : Voxel). coordinate axis v) c.coordinates_of-v.ensures.0)
    ∙ ap (λ (t : Bool). t || no_next c.args.sides c.args.i axis) (sym (le-ltb 2 axis c.if-axis-gt2.false))
