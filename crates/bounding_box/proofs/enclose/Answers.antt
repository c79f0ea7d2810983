-- `enclose`: the box of the rows before this one.
use Prim.Native.Nat.{ℕ}
use lib.ListN.{length}
use native.Mathlib.Omega.{arith}
use native.Mathlib.Nat.{mul-zero}
use mathlib.Core.Path.{sym, subst}
use Rattle.loops.specs.Rows.{Row}
use Rattle.loops.proofs.Rows.{row_of, rows_few}
use Rattle.bounding_box.specs.declared.Bounds.{Bounds}
use Rattle.bounding_box.specs.Bounds.{Bounded}
use Rattle.bounding_box.proofs.Bounding.{bounded-none, bounded-more, bounded-all}
use Rattle.bounding_box.proofs.enclose.Goals as goal
use Rattle.bounding_box.proofs.enclose.Goals.{In-loop-row}

pub overflow_mul-row-end : goal.overflow_mul-row-end
overflow_mul-row-end c = omega (arith, rows_few c.args.sides c.requires.fit)

pub loop-row-init : goal.loop-row-init
loop-row-init c =
    let a = c.args in
    let none : Bounds = record { x0 = a.sides.a; x1 = 0; y0 = a.sides.b; y1 = 0; z0 = a.sides.c; z1 = 0 } in
    subst (λ (n : ℕ). Bounded a.sides a.d.now n none) (sym (mul-zero a.sides.a)) (bounded-none a.sides a.d.now)

-- the row at hand
row_at : (c : In-loop-row) → let l = c.before in let a = l.args in Row a.sides (length a.d.now) l.loop-row.row
row_at c = let l = c.before in row_of l.args.sides _ l.loop-row.row l.requires.fit l.requires.len c.loop-row-test.true

pub widened-b-requires : goal.widened-b-requires
widened-b-requires c = row_at c

pub loop-row-preserved : goal.loop-row-preserved
loop-row-preserved c =
    let a = c.args in
    let r = row_at (goal.at.loop-row-preserved c).In-loop-row in
    bounded-more a.sides a.d.now c.loop-row.row c.loop-row.b c.widened-b.result c.loop-row.invariant r.y-in r.z-in c.widened-b.ensures

pub returns : goal.returns
returns c = bounded-all c.args.sides c.args.d.now c.loop-row.row c.loop-row.b c.requires (omega arith) c.loop-row.invariant
