-- `frame`: the rows before this one have the border's values.
use Rattle.std.proofs.Common.{◌≡◌, ℕ, ◌*◌, pos, ap, ◌∙◌, subst, mul-zero, arith}
use Rattle.loops.specs.InPlace.{Each}
use Rattle.loops.proofs.InPlace.{each_none}
use Rattle.loops.proofs.Rows.{row_of, rows_all, rows_few, each_row}
use Rattle.practice.specs.Work.{framed_at}
use Rattle.practice.proofs.frame.Goals as goal

pub overflow_mul-row-end : goal.overflow_mul-row-end
overflow_mul-row-end c = omega (arith, rows_few c.args.sides c.requires.sides)

pub loop-row-init : goal.loop-row-init
loop-row-init c = each_none _ _ _ _ _ (omega (arith, mul-zero c.args.sides.a))

pub frame_row-requires : goal.frame_row-requires
frame_row-requires c =
    row_of c.args.sides _ c.loop-row.row c.requires.sides (c.loop-row.invariant.len ∙ c.requires.len) (omega arith)

pub loop-row-preserved : goal.loop-row-preserved
loop-row-preserved c =
    let a = c.args in
    each_row (pos 0) _ a.sides.a c.loop-row.row a.values.now c.loop-row.values c.frame_row.new.values c.loop-row.invariant c.frame_row.ensures

pub shape_of-values : goal.shape_of-values
shape_of-values c = c.loop-row.invariant.len

pub returns : goal.returns
returns c =
    let a = c.args in
    let s = a.sides in
    let rows : c.loop-row.row ≡ s.b * s.c = omega arith in
    subst (λ (n : ℕ). Each (pos 0) (framed_at s) 0 n a.values.now c.loop-row.values) (ap (λ (n : ℕ). s.a * n) rows ∙ rows_all s) c.loop-row.invariant
