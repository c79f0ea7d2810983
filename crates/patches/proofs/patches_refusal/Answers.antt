-- `patches::patches_refusal` meets its contract.
use mathlib.Core.Path.{refl, subst, ◌∙◌}
use mathlib.Core.List.{◌++◌}
use Prim.Native.Nat.{◌+◌}
use native.Mathlib.Omega.{arith}
use Rattle.rules.proofs.Refusals.{numbers, handed_on}
use Rattle.rules.proofs.Checks.{Deciding, deciding-refused, deciding-next, deciding-done}
use Rattle.format.specs.Patch.{patch_length, patch_checks, patches_checks}
use Rattle.format.proofs.Patch.{checks-next, checks-none}
use Rattle.patches.proofs.patches_refusal.Goals as goal
use Rattle.patches.proofs.patches_refusal.Goals.{In_ok-patch_refusal, In-loop-at}

-- the record at hand, and those behind it
here : (c : In-loop-at) → let a = c.args in
    Deciding (patches_checks a.n a.file.now a.start)
    (patch_checks a.n a.file.now c.loop-at.at ++ patches_checks a.n a.file.now (c.loop-at.at + patch_length))
here c = subst (Deciding _) (checks-next _ _ _ c.loop-at-test.true) c.loop-at.invariant

pub returns-in_err-patch_refusal : goal.returns-in_err-patch_refusal
returns-in_err-patch_refusal c =
    handed_on _ _ c.from_residual.ensures.1
    ∙ deciding-refused _ _ _ (here (goal.at.returns-in_err-patch_refusal c).In-loop-at) _ c.in_err-patch_refusal.ensures (numbers c.in_err-patch_refusal.field-0.0)

-- and what is left after it
next : (c : In_ok-patch_refusal) → let a = c.args in
    Deciding (patches_checks a.n a.file.now a.start) (patches_checks a.n a.file.now (c.loop-at.at + patch_length))
next c = deciding-next _ _ _ (here (goal.at.In_ok-patch_refusal c).In-loop-at) _ c.in_ok-patch_refusal.ensures refl refl

pub loop-at-preserved : goal.loop-at-preserved
loop-at-preserved c = next (goal.at.loop-at-preserved c).In_ok-patch_refusal

pub returns : goal.returns
returns c = deciding-done _ (subst (Deciding _) (checks-none _ _ _ c.loop-at-test.false) c.loop-at.invariant)

pub returns-in_ok-patch_refusal : goal.returns-in_ok-patch_refusal
returns-in_ok-patch_refusal c =
    deciding-done _ (subst (Deciding _) (checks-none _ _ _ (omega arith)) (next (goal.at.returns-in_ok-patch_refusal c).In_ok-patch_refusal))
