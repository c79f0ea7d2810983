-- `carve_refusals::print_line` meets its contract: the line starts within its buffer.
use Rattle.std.proofs.Common.{◌≤◌, length, ◌≡◌, sym, subst}
use native.Mathlib.Omega.{arith}
use Rattle.text.specs.declared.Text.{Text}
use Rattle.text.proofs.Lines.{start-within, bytes-long}
use Rattle.carve_refusals.proofs.print_line.Goals as goal

pub slice_bounds-write_all-count : goal.slice_bounds-write_all-count
slice_bounds-write_all-count g c = subst (λ (t : Text). t.start ≤ 160) (sym c.line-text.ensures) (start-within _)

pub slice_bounds-write_all-start : goal.slice_bounds-write_all-start
slice_bounds-write_all-start g c =
    let h = subst (λ (t : Text). t.start ≤ 160) (sym c.line-text.ensures) (start-within _) in
    let l = subst (λ (t : Text). length t.bytes ≡ 160) (sym c.line-text.ensures) (bytes-long _) in
    omega (arith, h, l)
