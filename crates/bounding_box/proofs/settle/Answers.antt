-- `settle`: the rows before this one are done.
use mathlib.Core.Path.{◌≡◌, refl, ap, ◌∙◌}
use Prim.Native.Nat.{ℕ, ◌*◌}
use native.Mathlib.Omega.{arith}
use borrow.Author.Rules.{rules}
use native.Mathlib.Nat.{mul-zero}
use lib.ListN.{length}
use Rattle.loops.specs.Rows.{Row}
use Rattle.loops.proofs.InPlace.{each_none, each_all}
use Rattle.loops.proofs.Rows.{row_of, rows_all, rows_few, each_row}
use Rattle.bounding_box.specs.Bounds.{status_by}
use Rattle.bounding_box.proofs.Settling.{settled-row}
use Rattle.bounding_box.proofs.settle.Goals as goal
use Rattle.bounding_box.proofs.settle.Goals.{In-loop-row}

pub overflow_mul-row-end : goal.overflow_mul-row-end
overflow_mul-row-end c = omega (arith, rows_few c.args.sides c.requires.fit)

pub loop-row-init : goal.loop-row-init
loop-row-init c = each_none _ _ _ _ _ (omega (arith, mul-zero c.args.sides.a))

-- the row at hand
row_at : (c : In-loop-row) → let l = c.before in Row l.args.sides (length l.loop-row.status) l.loop-row.row
row_at c =
    let l = c.before in
    row_of l.args.sides (length l.loop-row.status) l.loop-row.row l.requires.fit (l.loop-row.invariant.len ∙ l.requires.len) c.loop-row-test.true

pub overflow_mul-first : goal.overflow_mul-first
overflow_mul-first c = let r = row_at (goal.at.overflow_mul-first c).In-loop-row in omega arith

pub overflow_add-first : goal.overflow_add-first
overflow_add-first c = let r = row_at (goal.at.overflow_add-first c).In-loop-row in omega arith

pub slice_bounds-settle_row-end : goal.slice_bounds-settle_row-end
slice_bounds-settle_row-end c = let r = row_at (goal.at.slice_bounds-settle_row-end c).In-loop-row in search rules

pub loop-row-preserved : goal.loop-row-preserved
loop-row-preserved c = let r = row_at (goal.at.loop-row-preserved c).In-loop-row in
    let a = c.args in
    each_row 0 _ a.sides.a c.loop-row.row a.status.now c.loop-row.status _ c.loop-row.invariant
    (settled-row a.sides a.b c.loop-row.row c.loop-row.status c.settle_row.new.row r c.settle_row.ensures)

pub returns : goal.returns
unfolding status_by
returns c =
    let rows : c.loop-row.row ≡ c.args.sides.b * c.args.sides.c = omega arith in
    let all = ap (λ (n : ℕ). c.args.sides.a * n) rows ∙ rows_all c.args.sides in
    each_all 0 _ _ _ c.args.status.now c.loop-row.status refl (omega (arith, c.requires.len)) c.loop-row.invariant
