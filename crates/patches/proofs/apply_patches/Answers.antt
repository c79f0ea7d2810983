-- `patches::apply_patches` meets its contract.
use mathlib.Core.Path.{ap, ◌∙◌}
use native.Mathlib.Omega.{arith}
use Prim.Native.Nat.{◌+◌}
use lib.ListN.{length, set}
use mir.Val.{to_z, of_z}
use mir.Facts.{to_z-of_z}
use borrow.Author.Rules.{sfits_of}
use Rattle.format.specs.Bytes.{value_of}
use Rattle.format.specs.Patch.{patch_length}
use Rattle.patches.proofs.Patching.{Applying, Fit, applying-fit, applying-next, applying-done}
use mir.Syntax.{w32}
use Rattle.patches.proofs.apply_patches.Goals as goal
use Rattle.patches.proofs.apply_patches.Goals.{In-loop-at, After-value}

right : (c : In-loop-at) → let a = c.args in Fit (length a.values.now) a.file.now c.loop-at.at
right c = applying-fit _ _ _ _ _ c.loop-at.invariant c.loop-at-test.true

pub index_at-i-requires : goal.index_at-i-requires
index_at-i-requires c = (right c).whole

pub value-requires : goal.value-requires
value-requires c = omega (arith, (right (goal.at.value-requires c).In-loop-at).whole)

pub bounds-values-i : goal.bounds-values-i
bounds-values-i c =
    omega (arith, (right (goal.at.bounds-values-i c).In-loop-at).below, c.index_at-i.ensures.0, c.loop-at.invariant.long)

-- what is left after the record
next : (c : After-value) → let a = c.args in
    Applying a.file.now a.values.now a.start (set c.loop-at.values c.index_at-i.result (to_z w32 (of_z w32 c.value.result))) (c.loop-at.at + patch_length)
next c =
    applying-next _ _ _ _ _ c.loop-at.invariant c.loop-at-test.true _ _ c.index_at-i.ensures.0
    (to_z-of_z (sfits_of {w = w32} c.value.type_inv) ∙ c.value.ensures ∙ ap (value_of 2 _) (omega arith))

pub loop-at-preserved : goal.loop-at-preserved
loop-at-preserved c = next (goal.at.loop-at-preserved c).After-value

pub returns : goal.returns
returns c = applying-done _ _ _ _ _ c.loop-at.invariant c.loop-at-test.false

pub returns-2 : goal.returns-2
returns-2 c = applying-done _ _ _ _ _ (next (goal.at.returns-2 c).After-value) (omega arith)
