-- `draw`: the values below i stand, and s has advanced for each of them.
use Rattle.std.proofs.Common.{sym, refl, ap, ◌∙◌, add-one, arith, to_z-of_z}
use borrow.Author.Rules.{sfits_of}
use Rattle.prelude.proofs.Filling.{filling-start, filling-next, filling-done}
use Rattle.practice.specs.Practice.{advanced, s_after, value_of}
use mir.Syntax.{w32}
use Rattle.practice.proofs.draw.Goals as goal

pub loop-v-init : goal.loop-v-init
unfolding s_after
loop-v-init c = (filling-start _ _ _, refl)

pub loop-v-preserved : goal.loop-v-preserved
unfolding s_after
loop-v-preserved c =
    let i = c.loop-v.v-index in
    let s = c.advanced-s.ensures ∙ ap advanced c.loop-v.invariant.1 in (
      filling-next _ _ _ c.loop-v.values i _ c.loop-v.invariant.0 (omega arith)
          (to_z-of_z (sfits_of {w = w32} c.value_of.type_inv) ∙ c.value_of.ensures ∙ ap value_of s),
      s ∙ ap (s_after c.args.seed) (sym (add-one i)),
    )

pub shape_of-values : goal.shape_of-values
shape_of-values c = c.loop-v.invariant.0.long

pub returns : goal.returns
returns c =
    filling-done _ _ _ c.loop-v.values c.loop-v.v-index c.loop-v.invariant.0 (omega arith)
