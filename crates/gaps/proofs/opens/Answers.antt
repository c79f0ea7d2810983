-- `opens`: what is found before o, or stands from o on, is what stands in all.
use mathlib.Core.Path.{refl, ◌∙◌}
use native.Mathlib.Omega.{arith}
use Rattle.loops.proofs.Below.{look-next, look-done}
use Rattle.gaps.specs.Gaps.{opens}
use Rattle.gaps.proofs.opens.Invariants.{three}
use Rattle.gaps.proofs.opens.Goals as goal

pub overflow_add-found : goal.overflow_add-found
overflow_add-found c =
    let h = c.requires c.loop-o.o-index c.loop-o-test.true in
    omega arith

pub bounds-label-base : goal.bounds-label-base
bounds-label-base c = c.requires c.loop-o.o-index c.loop-o-test.true

pub loop-o-preserved : goal.loop-o-preserved
loop-o-preserved c =
    let a = c.args in
    look-next (three a.label.now a.base) a.offsets.now c.loop-o.o-index 0 c.loop-o.found c.loop-o-test.true refl ∙ c.loop-o.invariant

pub returns : goal.returns
unfolding opens
returns c =
    let l = c.loop-o in
    let a = c.args in
    look-done (three a.label.now a.base) a.offsets.now l.o-index l.found c.loop-o-test.false ∙ l.invariant
