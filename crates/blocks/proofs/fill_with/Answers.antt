-- `fill_with`: the blocks of the rows before this one have their values.
use mathlib.Core.Path.{◌≡◌, sym, ap, ◌∙◌}
use mathlib.Core.Logic.{inl, inr}
use Prim.Native.Nat.{ℕ, ◌+◌, ◌-◌, ◌*◌, ◌<◌, ◌≤◌}
use native.Mathlib.Omega.{arith}
use borrow.Author.Rules.{rules}
use lib.ListN.{length, length-take, length-drop}
use Rattle.loops.specs.Rows.{Row}
use Rattle.loops.proofs.Orders.{split}
use Rattle.loops.proofs.Rows.{rows_few, rows_more}
use Rattle.rules.specs.Grid.{size}
use Rattle.blocks.specs.Work.{corner}
use Rattle.loops.proofs.Parts.{within, outside}
use Rattle.blocks.proofs.Rows.{half-row, bz-few, from-few, corner_is, past-rows}
use Rattle.blocks.proofs.fill_with.Goals as goal
use Rattle.blocks.proofs.fill_with.Goals.{In-loop-row}

pub overflow_mul-row-end : goal.overflow_mul-row-end
overflow_mul-row-end g c = omega (arith, rows_few c.halved-h.result (rw c.halved-h.ensures c.requires.sides.half-sides))

row_at : (g : _) (c : In-loop-row g) → let l = c.before in Row l.halved-h.result (length l.args.blocks.now) l.loop-row.row
row_at g c = let l = c.before in half-row l.args.s l.halved-h.result _ _ l.loop-row.row l.requires.sides l.halved-h.ensures c.loop-row-test.true

pub overflow_mul-first : goal.overflow_mul-first
overflow_mul-first g c = let r = row_at g (goal.at.overflow_mul-first g c).In-loop-row in omega arith

pub overflow_mul-from : goal.overflow_mul-from
overflow_mul-from g c = let r = row_at g (goal.at.overflow_mul-from g c).In-loop-row in omega arith

pub overflow_mul-from-in-loop-row : goal.overflow_mul-from-in-loop-row
overflow_mul-from-in-loop-row g c = let r = row_at g (goal.at.overflow_mul-from-in-loop-row g c).In-loop-row in omega arith

pub overflow_mul-from-in-loop-row-2 : goal.overflow_mul-from-in-loop-row-2
overflow_mul-from-in-loop-row-2 g c = let r = bz-few c.args.s c.halved-h.result _ _ c.loop-row.row c.requires.sides c.halved-h.ensures c.loop-row-test.true in omega arith

pub overflow_add-from : goal.overflow_add-from
overflow_add-from g c =
    let r = bz-few c.args.s c.halved-h.result _ _ c.loop-row.row c.requires.sides c.halved-h.ensures c.loop-row-test.true in
    let w = row_at g (goal.at.overflow_add-from g c).In-loop-row in omega arith

pub overflow_mul-from-in-loop-row-3 : goal.overflow_mul-from-in-loop-row-3
overflow_mul-from-in-loop-row-3 g c = let r = from-few c.args.s c.halved-h.result _ _ c.loop-row.row c.requires.sides c.halved-h.ensures c.loop-row-test.true in omega arith

pub overflow_add-first : goal.overflow_add-first
overflow_add-first g c = let r = row_at g (goal.at.overflow_add-first g c).In-loop-row in omega arith

pub offset_bounds-blocks-first : goal.offset_bounds-blocks-first
offset_bounds-blocks-first g c =
    let r = row_at g (goal.at.offset_bounds-blocks-first g c).In-loop-row in
    let h : c.halved-h.result.a * c.loop-row.row ≤ length c.loop-row.blocks = omega arith in
    search rules

pub slice_bounds-fill_row-end : goal.slice_bounds-fill_row-end
slice_bounds-fill_row-end g c = let r = row_at g (goal.at.slice_bounds-fill_row-end g c).In-loop-row in search rules

pub fill_row-requires-clause-few : goal.fill_row-requires-clause-few
fill_row-requires-clause-few g c =
    let r = from-few c.args.s c.halved-h.result _ _ c.loop-row.row c.requires.sides c.halved-h.ensures c.loop-row-test.true in
    let w = row_at g (goal.at.fill_row-requires-clause-few g c).In-loop-row in
    omega (arith, length-take {A = g.row.T.Denot}, length-drop {A = g.row.T.Denot})

pub fill_row-requires-clause-callable : goal.fill_row-requires-clause-callable
fill_row-requires-clause-callable g c =
    let a = c.args in
    let h = c.halved-h.result in
    let r = row_at g (goal.at.fill_row-requires-clause-callable g c).In-loop-row in
    λ x l.
    let here : x < h.a = omega (arith, length-take {A = g.row.T.Denot}, length-drop {A = g.row.T.Denot}) in
    let e = corner_is a.s h _ _ c.loop-row.row c.requires.sides c.halved-h.ensures c.loop-row-test.true x here in
    rw (← e) (c.requires.callable (h.a * c.loop-row.row + x) (omega (arith, c.requires.sides.blocks-len, r.last)))

pub loop-row-preserved : goal.loop-row-preserved
loop-row-preserved g c =
    let a = c.args in
    let h = c.halved-h.result in
    let r = row_at g (goal.at.loop-row-preserved g c).In-loop-row in
    let n : ℕ = h.a * c.loop-row.row + h.a - h.a * c.loop-row.row in
    let len : length c.fill_row.new.row ≡ n = omega (arith, length-take {A = g.row.T.Denot}, length-drop {A = g.row.T.Denot}) in
    let up-to : h.a * c.loop-row.row + h.a ≡ h.a * c.loop-row.row + n = omega arith in
    let room : h.a * c.loop-row.row + h.a ≤ length c.loop-row.blocks = omega (arith, r.last) in
    λ j d l. elim (split (h.a * c.loop-row.row) j) [
      | inl q ↦
          let u : j < h.a * c.loop-row.row + h.a = omega (arith, rows_more h.a c.loop-row.row) in
          let e = corner_is a.s h _ _ c.loop-row.row c.requires.sides c.halved-h.ensures c.loop-row-test.true (j - h.a * c.loop-row.row) (omega arith) in
          let f : h.a * c.loop-row.row + (j - h.a * c.loop-row.row) ≡ j = omega arith in
          rw (within d (h.a * c.loop-row.row) n (h.a * c.loop-row.row + h.a) c.loop-row.blocks c.fill_row.new.row room up-to len j q u)
          (rw (ap (corner a.s) (sym f) ∙ e) (c.fill_row.ensures (j - h.a * c.loop-row.row) d (omega (arith, length-take {A = g.row.T.Denot}, length-drop {A = g.row.T.Denot}))))
      | inr q ↦
          rw (outside d (h.a * c.loop-row.row) n (h.a * c.loop-row.row + h.a) c.loop-row.blocks c.fill_row.new.row room up-to len j (λ z. omega arith))
          (c.loop-row.invariant j d q)
    ]

pub returns : goal.returns
returns g c = λ j d l. c.loop-row.invariant j d (let p = past-rows c.halved-h.result c.loop-row.row c.loop-row-test.false in let e = ap size c.halved-h.ensures in omega (arith, c.requires.sides.blocks-len))
