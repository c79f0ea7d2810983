-- `scans::used_border` meets its contract. The loop has found whether a border voxel is kept in the layers before z.
use native.Mathlib.Omega.{arith}
use mathlib.Core.Path.{◌≡◌, ap, ◌∙◌, sym}
use Prim.Native.Nat.{ℕ, ◌*◌}
use native.Mathlib.Nat.{mul-zero, mul_assoc}
use Rattle.cells.specs.Groups.{any}
use Rattle.rules.specs.Grid.{size, range}
use Rattle.scans.specs.Scans.{used_border_at}
use Rattle.prelude.proofs.Ranges.{any-run-none, scan-join}
use Rattle.scans.proofs.Borders.{layers-more}
use Rattle.scans.proofs.used_border.Goals as goal

pub loop-z-init : goal.loop-z-init
loop-z-init c =
    let s = c.args.s in
    sym (any-run-none _ _ (s.a * (s.b * 0)) (ap (λ (n : ℕ). s.a * n) (mul-zero s.b) ∙ mul-zero s.a))

pub loop-z-preserved : goal.loop-z-preserved
loop-z-preserved c =
    let a = c.args in
    let s = a.s in
    scan-join (used_border_at s a.status.now) 0 (s.a * (s.b * c.loop-z.z)) (s.a * s.b) _ _ c.loop-z.found c.used_layer-found.result
    c.loop-z.invariant c.used_layer-found.ensures (omega arith) (layers-more s.a s.b c.loop-z.z)

pub returns : goal.returns
unfolding size
returns c =
    let a = c.args in
    let s = a.s in
    let e : c.loop-z.z ≡ s.c = omega (arith, c.loop-z-test.false) in
    c.loop-z.invariant
    ∙ ap (λ (n : ℕ). any (used_border_at s a.status.now) (range 0 n)) (ap (λ (z : ℕ). s.a * (s.b * z)) e ∙ sym (mul_assoc s.a s.b s.c))
