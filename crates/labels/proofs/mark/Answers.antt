-- `mark`: the rows before this one are marked.
use Prim.Native.Nat.{ℕ, ◌*◌}
use mathlib.Core.Path.{◌≡◌, sym, ap, ◌∙◌}
use native.Mathlib.Omega.{arith}
use lib.ListN.{length}
use Rattle.loops.proofs.Rows.{row_of, rows_all, rows_few}
use Rattle.labels.proofs.mark.Goals as goal

pub overflow_mul-row-end : goal.overflow_mul-row-end
overflow_mul-row-end c = omega (arith, rows_few c.args.sides c.requires.fit)

pub mark_row-requires : goal.mark_row-requires
mark_row-requires c =
    let len = c.loop-row.invariant.len in
    (row_of c.args.sides (length c.loop-row.label) c.loop-row.row c.requires.fit (len ∙ c.requires.same) c.loop-row-test.true, len ∙ c.requires.same ∙ sym c.requires.len)

pub returns : goal.returns
returns c =
    let rows : c.loop-row.row ≡ c.args.sides.b * c.args.sides.c = omega arith in
    let all = ap (λ (n : ℕ). c.args.sides.a * n) rows ∙ rows_all c.args.sides in
    record { len = c.loop-row.invariant.len ∙ c.requires.same; is = λ k h. c.loop-row.invariant.inside k (omega arith) (omega arith) }
