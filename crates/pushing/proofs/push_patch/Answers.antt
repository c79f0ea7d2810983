-- `push_patch`: the rows before this one have had their turn.
use mathlib.Core.Path.{◌∙◌, ap}
use mathlib.Core.List.{flat_map}
use Prim.Native.Nat.{ℕ, ◌+◌, ◌*◌}
use native.Mathlib.Omega.{arith}
use Rattle.rules.specs.Grid.{range}
use Rattle.pushing.specs.Push.{fill_of, push_all}
use Rattle.pushing.proofs.Runs.{pushing-more, pushing-done, rows_next, rows_none}
use Rattle.pushing.proofs.push_patch.Goals as goal

pub loop-row-preserved : goal.loop-row-preserved
loop-row-preserved c =
    let a = c.args in
    let p = a.patch in
    pushing-more _ _ (fill_of c.loop-row.label c.loop-row.work c.loop-row.end) _ _ _ _
    (rows_next p.wide p.rows p.step a.first c.loop-row.row (omega arith)) c.loop-row.invariant c.push_run-end.ensures

pub returns : goal.returns
returns c =
    let a = c.args in
    let p = a.patch in
    let f = fill_of a.label.now a.work.now a.end in
    pushing-done _ _ (fill_of c.loop-row.label c.loop-row.work c.loop-row.end) _
    (rows_none p.wide p.rows p.step a.first c.loop-row.row (omega arith)) c.loop-row.invariant
    ∙ ap (λ (n : ℕ). push_all (flat_map (λ r. range (a.first + r * p.step) p.wide) (range 0 n)) f) (omega arith)
