-- `writing::write_layers` meets its contract.
use mathlib.Core.Path.{◌≡◌, ap}
use Prim.Native.Nat.{ℕ, ◌+◌, ◌*◌, ◌≤◌}
use native.Mathlib.Omega.{arith}
use lib.ListN.{length}
use Rattle.rules.specs.Grid.{size}
use Rattle.rules.proofs.Places.{fit}
use Rattle.format.specs.Layer.{area}
use Rattle.format.proofs.Sizes.{size_small, layer-room}
use Rattle.writing.proofs.Layers.{laid-start, laid-long, laid-room, laid_end, laid-part, laid_next, laid_done}
use Rattle.writing.proofs.write_layers.Goals as goal
use Rattle.writing.proofs.write_layers.Goals.{After-write_layer-arg-1, In-loop-z}

-- in the loop: where the layer lies among the values, and its record in the file
room : (c : In-loop-z) → let n = c.area-count.result in
    c.loop-z.z * n + n ≤ size c.args.sides
room c = layer-room _ _ _ c.area-count.ensures.0 (omega arith)

below : (c : In-loop-z) → let l = c in l.loop-z.z * l.area-count.result ≡ l.loop-z.z * area l.args.sides
below c = let l = c in ap (λ (n : ℕ). l.loop-z.z * n) l.area-count.ensures.0

small : (c : In-loop-z) → size c.args.sides ≤ 262144
small c = size_small _ c.loop-z.invariant.ready.fits

record-room : (c : After-write_layer-arg-1) → let l = c in l.loop-z.start + l.layer_length-total.result ≤ length l.loop-z.file
record-room c = let l = c in laid-room _ _ _ _ _ _ _ l.loop-z.invariant _ (omega arith) l.layer_length-total.ensures.0

-- no sum overflows
record-end : (c : In-loop-z) → let l = c in l.loop-z.start + l.layer_length-total.result ≤ 1048775
record-end c =
    let l = c in
    let e = l.layer_length-total.ensures in
    laid_end _ _ _ _ _ _ _ l.loop-z.invariant _ (omega arith) e.0 e.1

pub area-count-requires : goal.area-count-requires
area-count-requires c = c.requires.0.fits

pub layer_length-total-requires : goal.layer_length-total-requires
layer_length-total-requires c = c.requires.0.fits

pub loop-z-init : goal.loop-z-init
loop-z-init c = let p = c.requires in laid-start _ _ _ _ p.0 p.1

pub overflow_mul-at : goal.overflow_mul-at
overflow_mul-at c = omega (arith, room c, small c)

pub overflow_cast-z : goal.overflow_cast-z
overflow_cast-z c = omega (arith, (fit _ c.loop-z.invariant.ready.fits).c-high)

pub overflow_add-at : goal.overflow_add-at
overflow_add-at c = omega (arith, room c, small c)

pub offset_bounds-values-at : goal.offset_bounds-values-at
offset_bounds-values-at c = omega (arith, room c, small c)

pub slice_bounds-write_layer-end : goal.slice_bounds-write_layer-end
slice_bounds-write_layer-end c = omega (arith, room c, c.loop-z.invariant.ready.long)

pub overflow_add-start : goal.overflow_add-start
overflow_add-start c = omega (arith, record-end (goal.at.overflow_add-start c).In-loop-z)

pub slice_bounds-write_layer-end-in-loop-z : goal.slice_bounds-write_layer-end-in-loop-z
slice_bounds-write_layer-end-in-loop-z c = omega (arith, record-room c)

pub write_layer-requires : goal.write_layer-requires
write_layer-requires c =
    let e = c.area-count.ensures.0 in
    laid-part _ _ _ _ _ _ _ c.loop-z.invariant _ _ _ (omega arith) (below (goal.at.write_layer-requires c).In-loop-z) e c.layer_length-total.ensures.0

pub overflow_add-start-in-loop-z : goal.overflow_add-start-in-loop-z
overflow_add-start-in-loop-z c = omega (arith, record-end (goal.at.overflow_add-start-in-loop-z c).In-loop-z)

pub loop-z-preserved : goal.loop-z-preserved
loop-z-preserved c =
    let e = c.area-count.ensures.0 in
    laid_next _ _ _ _ _ _ _ c.loop-z.invariant _ _ _ (omega arith) (omega (arith, below (goal.at.loop-z-preserved c).In-loop-z)) e c.layer_length-total.ensures.0 _
    c.write_layer.ensures

pub shape_of-file : goal.shape_of-file
shape_of-file c = laid-long _ _ _ _ _ _ _ c.loop-z.invariant

pub returns : goal.returns
returns c = laid_done _ _ _ _ _ _ _ c.loop-z.invariant (omega arith)
