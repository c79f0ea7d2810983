-- `worked_at` is the rule's number.
use mathlib.Core.Path.{sym, ap, ◌∙◌}
use native.Mathlib.Omega.{arith}
use Prim.Native.Nat.{ℕ, ◌+◌}
use mir.Syntax.{w32}
use mir.Val.{to_z}
use mir.Facts.{to_z-of_z, to_z_pos}
use Rattle.values.specs.Values.{counted_as}
use Rattle.values.proofs.Signs.{worked-in, worked-neg, worked-pos, worked-far}
use Rattle.prelude.proofs.Signs.{sign}
use borrow.Author.Rules.{sfits_of}
use Rattle.values.proofs.worked_at.Goals as goal

pub returns-then-d-eq0 : goal.returns-then-d-eq0
returns-then-d-eq0 c =
    to_z-of_z (sfits_of {w = w32} c.counted.type_inv)
    ∙ c.counted.ensures
    ∙ ap counted_as (to_z-of_z c.ranges.v)
    ∙ sym (worked-in _ _ _ c.if-d-eq0.true)

pub returns-then-v-lt0 : goal.returns-then-v-lt0
returns-then-v-lt0 c =
    to_z_pos w32 (omega arith) ∙ sym (worked-neg _ _ _ c.if-d-ne1.false (sign _ c.ranges.v c.if-v-lt0.true))

pub returns-else-v-lt0 : goal.returns-else-v-lt0
returns-else-v-lt0 c =
    to_z-of_z c.ranges.v ∙ sym (worked-pos _ _ _ c.if-d-ne1.false (sign _ c.ranges.v c.if-v-lt0.false))

pub returns-then-d-ne1 : goal.returns-then-d-ne1
returns-then-d-ne1 c = ap (λ (d : ℕ). to_z w32 (c.args.m + d)) c.from.ensures ∙ to_z_pos w32 (omega arith) ∙ sym (worked-far _ _ _ c.if-d-eq0.false c.if-d-ne1.true)
