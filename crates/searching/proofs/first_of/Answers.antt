-- `searching::first_of` meets its contract: the loop has skipped the voxels before i.
use mathlib.Core.Path.{refl}
use borrow.Author.Rules.{sfits_of, rules}
use mir.Val.{SFits}
use mir.Syntax.{w32}
use Rattle.rules.specs.Marks.{marked}
use Rattle.searching.specs.Argmax.{height_at, key_at}
use Rattle.searching.proofs.Argmax.{span-at, key-is, skipped-start, skipped-other, skipped-same, skipped-all}
use Rattle.searching.proofs.first_of.Goals as goal

pub loop-i-init : goal.loop-i-init
loop-i-init c =
    let a = c.args in
    let p = c.requires.0 in
    skipped-start (key_at (marked a.marks.now) a.dist.now a.status.now a.a a.l) a.held.first _ _ p.greatest p.some

pub height_at-requires : goal.height_at-requires
height_at-requires c = (span-at c.requires.0.span c.loop-i.invariant.low c.loop-i-test.true, c.requires.1)

pub returns-then-height_at-held : goal.returns-then-height_at-held
returns-then-height_at-held c =
    let a = c.args in
    let p = c.requires.0 in
    let i = c.loop-i.i in
    let key = key_at (marked a.marks.now) a.dist.now a.status.now a.a a.l in
    let height = height_at (marked a.marks.now) a.dist.now a.status.now a.a a.l i in
    let height-fits : SFits w32 a.held.height = search rules in
    skipped-same key _ _ _ p.greatest p.some _ height _ i refl (sfits_of {w = w32} c.height_at.type_inv) height-fits
    c.height_at.ensures (key-is _ _ _ _ _ i) c.loop-i.invariant c.loop-i-test.true c.if-height_at-held.true

pub loop-i-preserved : goal.loop-i-preserved
loop-i-preserved c =
    let a = c.args in
    let p = c.requires.0 in
    let i = c.loop-i.i in
    let key = key_at (marked a.marks.now) a.dist.now a.status.now a.a a.l in
    let height = height_at (marked a.marks.now) a.dist.now a.status.now a.a a.l i in
    let height-fits : SFits w32 a.held.height = search rules in
    skipped-other key _ _ _ p.greatest p.some _ height _ i refl (sfits_of {w = w32} c.height_at.type_inv) height-fits
    c.height_at.ensures (key-is _ _ _ _ _ i) c.loop-i.invariant c.if-height_at-held.false

pub returns : goal.returns
returns c =
    let a = c.args in
    let p = c.requires.0 in
    absurd (skipped-all (key_at (marked a.marks.now) a.dist.now a.status.now a.a a.l) _ _ _ p.greatest p.some c.loop-i.i c.loop-i.invariant c.loop-i-test.false)
