-- `scans::used_layer` meets its contract. The loop has found whether a border voxel is kept in the rows before y.
use native.Mathlib.Omega.{arith}
use mathlib.Core.Path.{◌≡◌, ap, ◌∙◌, sym}
use Prim.Native.Nat.{ℕ, ◌*◌}
use native.Mathlib.Nat.{mul-zero}
use Rattle.cells.specs.Groups.{any}
use Rattle.rules.specs.Grid.{range}
use Rattle.scans.specs.Scans.{used_border_at}
use Rattle.prelude.proofs.Ranges.{any-run-none, scan-join}
use Rattle.loops.proofs.Rows.{rows_more}
use Rattle.scans.proofs.Borders.{row-start}
use Rattle.scans.proofs.used_layer.Goals as goal

pub loop-y-init : goal.loop-y-init
loop-y-init c = let a = c.args.s.a in sym (any-run-none _ _ (a * 0) (mul-zero a))

pub loop-y-preserved : goal.loop-y-preserved
loop-y-preserved c =
    let a = c.args in
    let s = a.s in
    scan-join (used_border_at s a.status.now) (s.a * (s.b * a.z)) (s.a * c.loop-y.y) s.a _ _ c.loop-y.found c.used_row-found.result
    c.loop-y.invariant c.used_row-found.ensures (row-start s c.loop-y.y a.z) (rows_more s.a c.loop-y.y)

pub returns : goal.returns
returns c =
    let a = c.args in
    let s = a.s in
    let e : c.loop-y.y ≡ s.b = omega (arith, c.loop-y-test.false) in
    c.loop-y.invariant ∙ ap (λ (y : ℕ). any (used_border_at s a.status.now) (range (s.a * (s.b * a.z)) (s.a * y))) e
