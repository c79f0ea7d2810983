-- `searching::greatest` meets its contract: a stretch without marks has the keys of its surface.
use mathlib.Core.Path.{◌≡◌, sym, ap, ◌∙◌, subst}
use lib.IntN.{ℤ}
use mir.Facts.{to_z-of_z}
use mir.Syntax.{w32}
use mir.Val.{SFits}
use native.Mathlib.Omega.{arith}
use borrow.Author.Rules.{rules, sfits_of}
use Rattle.rules.specs.Marks.{marked}
use Rattle.searching.specs.Argmax.{key_at, surface_key, surface_height, height_at, rank, Greatest}
use Rattle.searching.proofs.Argmax.{key-is, surface-key-is}
use Rattle.searching.proofs.Pins.{plain-is}
use Rattle.searching.proofs.greatest.Goals as goal

pub returns-then-joined-eq0 : goal.returns-then-joined-eq0
returns-then-joined-eq0 c =
    let a = c.args in
    let fits : SFits w32 c.greatest_of.result = sfits_of {w = w32} c.greatest_of.type_inv in
    let none : c.joined.result ≡ 0 = omega (arith, c.if-joined-eq0.true) in
    let surface = c.greatest_of.ensures (surface_key a.dist.now a.status.now a.a a.l)
    (λ i h low high post.
    let e : h ≡ surface_height a.dist.now a.status.now a.a a.l i = search rules in
    surface-key-is a.dist.now a.status.now a.a a.l i ∙ ap rank (sym e)) in
    subst (λ (z : ℤ). Greatest (key_at (marked a.marks.now) a.dist.now a.status.now a.a a.l) a.first a.end (rank z)) (sym (to_z-of_z fits))
    (plain-is a.marks.now a.first a.end c.joined.result c.joined.ensures none a.dist.now a.status.now a.a a.l _ surface)

pub returns-else-joined-eq0 : goal.returns-else-joined-eq0
returns-else-joined-eq0 c =
    let a = c.args in
    let fits : SFits w32 c.greatest_of-else-joined-eq0.result = sfits_of {w = w32} c.greatest_of-else-joined-eq0.type_inv in
    subst (λ (z : ℤ). Greatest (key_at (marked a.marks.now) a.dist.now a.status.now a.a a.l) a.first a.end (rank z)) (sym (to_z-of_z fits))
    (c.greatest_of-else-joined-eq0.ensures (key_at (marked a.marks.now) a.dist.now a.status.now a.a a.l)
    (λ i h low high post.
    let e : h ≡ height_at (marked a.marks.now) a.dist.now a.status.now a.a a.l i = search rules in
    key-is (marked a.marks.now) a.dist.now a.status.now a.a a.l i ∙ ap rank (sym e)))
