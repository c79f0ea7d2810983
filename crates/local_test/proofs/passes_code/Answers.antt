-- `local_test::passes_code` meets its contract: a count of ones and k decide, and the first is enough where it fails.
use mathlib.Core.Path.{refl, sym, ap, ◌∙◌}
use mathlib.Core.Bool.{Bool, ◌&&◌}
use native.Mathlib.Omega.{arith}
use borrow.Author.Rules.{rules}
use borrow.Author.Tests.{eq-eqb, ne_eqb}
use lib.Dec.{eqb}
use Rattle.cells.specs.Cells.{test}
use Rattle.touched_cells.specs.Block.{kept_of}
use Rattle.local_test.proofs.Pass.{count, pass-by-counts}
use Rattle.local_test.proofs.passes_code.Goals as goal

-- k need not have been found
pub returns-then-t-ne13 : goal.returns-then-t-ne13
returns-then-t-ne13 c =
    let kept = kept_of c.args.code in
    ap (λ (b : Bool). b && eqb (test kept).k 1) (sym (ne_eqb (count c.spread-t.result) 13 (λ e. omega (arith, c.if-t-ne13.true))))
    ∙ pass-by-counts kept c.spread-t.result (test kept).k c.spread-t.ensures refl

pub touched_groups-requires : goal.touched_groups-requires
touched_groups-requires c = (kept_of c.args.code, c.spread-t.ensures)

pub returns : goal.returns
returns c =
    let kept = kept_of c.args.code in
    ap (λ (b : Bool). b && eqb c.touched_groups.result 1) (sym (eq-eqb (count c.spread-t.result) 13 (omega (arith, c.if-t-ne13.false))))
    ∙ pass-by-counts kept c.spread-t.result c.touched_groups.result c.spread-t.ensures (c.touched_groups.ensures kept c.spread-t.ensures)
