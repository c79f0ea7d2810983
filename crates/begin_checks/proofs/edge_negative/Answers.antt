-- `edge_negative`: the rows before this one have been looked at.
use mathlib.Core.Path.{◌≡◌, sym, ap, ◌∙◌}
use Prim.Native.Nat.{ℕ, ◌*◌}
use native.Mathlib.Omega.{arith}
use native.Mathlib.Nat.{mul-zero}
use Rattle.cells.specs.Groups.{any}
use Rattle.rules.specs.Grid.{range}
use Rattle.prelude.proofs.Ranges.{any-run-none, scan-join}
use Rattle.loops.proofs.Rows.{row_of, rows_more, rows_all, rows_few}
use Rattle.begin_checks.specs.Given.{edge_negative}
use Rattle.begin_checks.proofs.edge_negative.Goals as goal

pub overflow_mul-row-end : goal.overflow_mul-row-end
overflow_mul-row-end c = omega (arith, rows_few c.args.sides c.requires.0.sides)

pub loop-row-init : goal.loop-row-init
loop-row-init c = let a = c.args.sides.a in sym (any-run-none _ _ (a * 0) (mul-zero a))

pub edge_row-found-requires : goal.edge_row-found-requires
edge_row-found-requires c =
    (row_of c.args.sides _ c.loop-row.row c.requires.0.sides c.requires.0.len c.loop-row-test.true, c.requires.1)

pub loop-row-preserved : goal.loop-row-preserved
loop-row-preserved c =
    let a = c.args in
    let s = a.sides in
    scan-join (edge_negative s a.width a.values.now) 0 (s.a * c.loop-row.row) s.a _ _ c.loop-row.found c.edge_row-found.result
    c.loop-row.invariant c.edge_row-found.ensures (omega arith) (rows_more s.a c.loop-row.row)

pub returns : goal.returns
returns c =
    let a = c.args in
    let s = a.sides in
    let rows : c.loop-row.row ≡ s.b * s.c = omega arith in
    c.loop-row.invariant ∙ ap (λ (n : ℕ). any (edge_negative s a.width a.values.now) (range 0 n)) (ap (λ (n : ℕ). s.a * n) rows ∙ rows_all s)
