-- `gridfile::fill` meets its contract.
use mathlib.Core.Path.{◌≡◌, sym, ◌∙◌}
use Prim.Native.Nat.{ℕ, ◌+◌, ◌-◌}
use native.Mathlib.Omega.{arith}
use Rattle.gridfile.proofs.Filled.{spreading-start, spreading-readable, spreading-next, spreading-patches, spreading-done}
use Rattle.gridfile.proofs.fill.Goals as goal

pub loop-layer-init : goal.loop-layer-init
loop-layer-init c =
    let n : ℕ = c.args.sides.c in
    let all : n - 0 ≡ n = omega arith in
    rw all (spreading-start _ _ _ c.requires)

pub fill_record-start-requires : goal.fill_record-start-requires
fill_record-start-requires c =
    (spreading-readable _ _ _ _ _ _ c.loop-layer.invariant (omega arith), c.loop-layer.invariant.long)

pub loop-layer-preserved : goal.loop-layer-preserved
loop-layer-preserved c =
    let n : ℕ = c.args.sides.c in
    let left : n - c.loop-layer._layer - 1 ≡ n - (c.loop-layer._layer + 1) = omega arith in
    rw (← left) (spreading-next _ _ _ _ _ _ c.loop-layer.invariant (omega arith) _ _ c.fill_record-start.ensures.0 c.fill_record-start.ensures.1)

pub apply_patches-requires : goal.apply_patches-requires
apply_patches-requires c = spreading-patches _ _ _ _ _ _ c.loop-layer.invariant (omega arith) c.requires

pub shape_of-values : goal.shape_of-values
shape_of-values c = c.values-2-1.given ∙ c.loop-layer.invariant.long ∙ sym c.requires.long

pub returns : goal.returns
returns c = spreading-done _ _ _ _ _ _ c.loop-layer.invariant (omega arith) _ c.apply_patches.ensures
