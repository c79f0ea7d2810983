-- `keys::plain_scan` meets its contract: where none is hurried the rank is the distance's.
use mathlib.Core.Path.{refl, sym, ap, ◌∙◌}
use Prim.Native.Nat.{ℕ, ◌+◌}
use native.Mathlib.Omega.{arith}
use borrow.Author.Rules.{rules}
use borrow.Author.Tests.{ltb-true, ltb-false}
use lib.IntN.{pos}
use lib.ListN.{get_or}
use mir.Syntax.{w32}
use mir.Val.{SFits, to_z, of_z}
use Rattle.rules.specs.Marks.{unmarked}
use Rattle.keys.specs.Key.{key_of}
use Rattle.keys.proofs.Ranks.{compared, plain-rank}
use Rattle.keys.proofs.Scanning.{scanning-none, scanning-first, scanning-ahead, scanning-behind, scanning-done}
use Rattle.keys.proofs.plain_scan.Goals as goal
use Rattle.keys.proofs.plain_scan.Goals.{then-g-d, else-g-d}

pub returns-then-set-eq0 : goal.returns-then-set-eq0
returns-then-set-eq0 c = scanning-none unmarked.hurried c.args.dist.now c.args.at _ c.if-set-eq0.true

pub loop-m-init : goal.loop-m-init
loop-m-init c =
    let a = c.args in
    let f : SFits w32 (get_or a.dist.now c.lowest-b.result (pos 0)) = search rules in
    let r = plain-rank (a.at + c.lowest-b.result) f refl in
    scanning-first unmarked.hurried a.dist.now a.at _ _ _ c.requires c.lowest-b.ensures r.0 r.1

pub loop-m-preserved : goal.loop-m-preserved
loop-m-preserved c =
    let a = c.args in
    let l = c.loop-m in
    let t = c.lowest-t.result in
    let f : SFits w32 (get_or a.dist.now t (pos 0)) = search rules in
    let r = plain-rank (a.at + t) f refl in
    let e = compared (to_z w32 l.g-bits) (to_z w32 (of_z w32 (get_or a.dist.now t (pos 0)))) (search rules) in
    elim c.if-g-d.branch [
      | then-g-d w ↦
          let p = ltb-true _ _ (sym e ∙ w.if-g-d.true) in
          rw (w.b-is, w.g-is) (scanning-ahead unmarked.hurried a.dist.now a.at _ _ l.b l.m t _ l.invariant c.lowest-t.ensures r.0 r.1 p)
      | else-g-d w ↦
          let p = ltb-false _ _ (sym e ∙ w.if-g-d.false) in
          rw (w.b-is, w.g-is) (scanning-behind unmarked.hurried a.dist.now a.at _ _ l.b l.m t _ l.invariant c.lowest-t.ensures r.0 r.1 p)
    ]

pub returns : goal.returns
returns c =
    let a = c.args in
    let l = c.loop-m in
    scanning-done unmarked.hurried a.dist.now a.at _ _ l.b l.m _ (omega (arith, c.loop-m-test.false))
    (c.key.ensures ∙ ap (λ (x : ℕ). key_of x (a.at + l.b)) c.raised.ensures.0) l.invariant
