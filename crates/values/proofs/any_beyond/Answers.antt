-- `any_beyond`: what is found before v, or stands from v on, is what stands in all.
use mathlib.Core.Path.{ap, ◌∙◌}
use lib.IntN.{pos}
use lib.ListN.{get_or}
use mir.Syntax.{w32}
use mir.Val.{SFits}
use mir.Facts.{to_z-of_z}
use borrow.Author.Rules.{rules}
use Rattle.rules.specs.Value.{beyond}
use Rattle.loops.proofs.Below.{look-next, look-done}
use Rattle.values.proofs.any_beyond.Goals as goal

pub loop-v-preserved : goal.loop-v-preserved
loop-v-preserved c =
    let a = c.args in
    let i = c.loop-v.v-index in
    let f : SFits w32 (get_or a.values.now i (pos 0)) = search rules in
    look-next (beyond a.bound) a.values.now i (pos 0) c.loop-v.found c.loop-v-test.true (c.beyond-found.ensures ∙ ap (beyond a.bound) (to_z-of_z f))
    ∙ c.loop-v.invariant

pub returns : goal.returns
returns c = look-done (beyond c.args.bound) c.args.values.now c.loop-v.v-index c.loop-v.found c.loop-v-test.false ∙ c.loop-v.invariant
