-- `keys::hurried_scan` meets its contract: the greatest so far, and the bits that are left.
use mathlib.Core.Path.{◌≡◌, ap, ◌∙◌}
use Prim.Native.Nat.{◌+◌}
use native.Mathlib.Omega.{arith}
use lib.IntN.{ℤ, pos}
use lib.ListN.{get_or}
use mir.Val.{SFits}
use mir.Facts.{to_z-of_z}
use mir.Syntax.{w32}
use borrow.Author.Rules.{rules}
use Rattle.rules.specs.Grid.{distance_at}
use Rattle.rules.specs.Marks.{marked}
use Rattle.keys.specs.Key.{rank_by}
use Rattle.keys.proofs.Scanning.{scanning-ahead, scanning-behind, scanning-done}
use Rattle.keys.proofs.hurried_scan.Goals as goal
use Rattle.keys.proofs.hurried_scan.Goals.{then-g-r, else-g-r}

pub loop-m-preserved : goal.loop-m-preserved
loop-m-preserved c =
    let l = c.loop-m in
    let a = c.args in
    let h = (marked a.marks.now).hurried in
    let t = c.lowest-t.result in
    let f : SFits w32 (get_or a.dist.now t (pos 0)) = search rules in
    let e : c.rank-r.result ≡ rank_by h (distance_at a.dist.now t) (a.at + t) =
    c.rank-r.ensures.0 ∙ ap (λ (z : ℤ). rank_by h z (a.at + t)) (to_z-of_z f) in
    elim c.if-g-r.branch [
      | then-g-r w ↦ rw (w.b-is, w.g-is) (scanning-ahead h a.dist.now a.at _ l.g l.b l.m t _ l.invariant c.lowest-t.ensures e c.rank-r.ensures.1 w.if-g-r.true)
      | else-g-r w ↦ rw (w.b-is, w.g-is) (scanning-behind h a.dist.now a.at _ l.g l.b l.m t _ l.invariant c.lowest-t.ensures e c.rank-r.ensures.1 w.if-g-r.false)
    ]

pub returns : goal.returns
returns c =
    let a = c.args in
    scanning-done (marked a.marks.now).hurried a.dist.now a.at _ c.loop-m.g c.loop-m.b c.loop-m.m _
    (omega (arith, c.loop-m-test.false)) c.key.ensures c.loop-m.invariant
