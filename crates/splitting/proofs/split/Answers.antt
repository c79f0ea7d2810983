-- `split`: the rows before this one are done.
use mathlib.Core.Path.{◌≡◌, ap, sym, ◌∙◌, subst}
use Prim.Native.Nat.{ℕ, ◌*◌}
use native.Mathlib.Omega.{arith}
use native.Mathlib.Nat.{mul-zero}
use Rattle.rules.specs.Grid.{voxels}
use Rattle.loops.proofs.InPlace.{each_none, each_all}
use Rattle.loops.proofs.Rows.{row_of, rows_all, rows_few, each_row}
use Rattle.splitting.specs.Split.{Splittable}
use Rattle.splitting.proofs.split.Goals as goal

pub overflow_mul-row-end : goal.overflow_mul-row-end
overflow_mul-row-end c = omega (arith, rows_few c.args.s c.requires.sides)

pub loop-row-init : goal.loop-row-init
loop-row-init c = each_none _ _ _ _ _ (omega (arith, mul-zero c.args.s.a))

pub split_row-requires : goal.split_row-requires
split_row-requires c =
    let a = c.args in
    let e = c.loop-row.invariant.len in (
      subst (Splittable a.s a.dist.now a.blocks.now) (sym e) c.requires,
      row_of a.s _ c.loop-row.row c.requires.sides (e ∙ c.requires.statuses) c.loop-row-test.true,
    )

pub loop-row-preserved : goal.loop-row-preserved
loop-row-preserved c =
    let a = c.args in
    each_row 0 _ a.s.a c.loop-row.row a.status.now c.loop-row.status c.split_row.new.status c.loop-row.invariant c.split_row.ensures

pub returns : goal.returns
unfolding voxels
returns c =
    let rows : c.loop-row.row ≡ c.args.s.b * c.args.s.c = omega arith in
    let all = ap (λ (n : ℕ). c.args.s.a * n) rows ∙ rows_all c.args.s in
    each_all _ _ _ (c.args.s.a * c.loop-row.row) c.args.status.now c.loop-row.status c.requires.statuses (omega arith) c.loop-row.invariant
