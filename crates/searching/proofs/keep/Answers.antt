-- `searching::keep` meets its contract.
use mathlib.Core.Path.{sym, ap, ap₂, ◌∙◌}
use borrow.Author.Rules.{rules}
use lib.IntN.{ℤ}
use lib.Signed.{lt_z}
use mir.Val.{SFits}
use mir.Facts.{to_z-of_z}
use mir.Syntax.{w32}
use Rattle.searching.proofs.Argmax.{keep_taken, keep_left}
use Rattle.searching.proofs.keep.Goals as goal

pub returns-then-best-height : goal.returns-then-best-height
returns-then-best-height c =
    let a = c.args in
    let f : SFits w32 a.best.height = search rules in
    let t = ap₂ lt_z (sym (to_z-of_z f)) (sym (to_z-of_z c.ranges.height)) ∙ c.if-best-height.true in
    ap (λ (z : ℤ). record { height = z; first = a.first; end = a.end }) (to_z-of_z c.ranges.height)
    ∙ sym (keep_taken a.best a.height a.first a.end t)

pub returns-else-best-height : goal.returns-else-best-height
returns-else-best-height c =
    let a = c.args in
    let f : SFits w32 a.best.height = search rules in
    let t = ap₂ lt_z (sym (to_z-of_z f)) (sym (to_z-of_z c.ranges.height)) ∙ c.if-best-height.false in
    sym (keep_left a.best a.height a.first a.end t)
