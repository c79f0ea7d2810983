-- `gridfile::record_refusal` meets its contract.
use mathlib.Core.Path.{◌≡◌, refl, sym, ◌∙◌}
use Prim.Native.Nat.{ℕ}
use native.Mathlib.Omega.{arith}
use Rattle.rules.specs.Checks.{first_failing}
use Rattle.rules.proofs.Checks.{all_hold}
use Rattle.rules.proofs.Refusals.{handed_on, refused-before, passed-before}
use Rattle.format.specs.Layer.{z_at}
use Rattle.format.specs.File.{record_checks}
use Rattle.layers.specs.Readable.{Readable}
use Rattle.layers.proofs.Reading.{readable}
use Rattle.gridfile.proofs.Checking.{behind-layer, repeat-refused, skip-refused, stray-refused, record-taken}
use Rattle.gridfile.proofs.record_refusal.Goals as goal
use Rattle.gridfile.proofs.record_refusal.Goals.{In_ok-layer_refusal, Else-z-next-2}

-- past its own checks the record can be read, and its z and its values decide
right : (c : In_ok-layer_refusal) → let a = c.args in Readable a.sides a.file.now a.start
right c =
    readable _ _ _ c.requires (all_hold _ refl (sym c.in_ok-layer_refusal.ensures))

behind : (c : In_ok-layer_refusal) (n : ℕ) → let a = c.args in
    n ≡ behind-layer a.sides a.file.now a.start a.next → n ≡ first_failing (record_checks a.sides a.file.now a.start a.next)
behind c n e = passed-before _ _ refl c.in_ok-layer_refusal.ensures n e

-- behind both tests of z it is the record that is due
due : (c : Else-z-next-2) → let a = c.args in z_at a.file.now a.start ≡ a.next
due c = sym c.from-z.ensures ∙ c.if-z-next-2.false

pub returns-in_err-layer_refusal : goal.returns-in_err-layer_refusal
returns-in_err-layer_refusal c = handed_on _ _ c.from_residual.ensures.1 ∙ refused-before _ _ _ c.in_err-layer_refusal.ensures

pub overflow_add-start : goal.overflow_add-start
overflow_add-start c = omega (arith, (right c).whole)

pub bounds-file-start : goal.bounds-file-start
bounds-file-start c = omega (arith, (right (goal.at.bounds-file-start c).In_ok-layer_refusal).whole)

pub returns-then-z-next : goal.returns-then-z-next
returns-then-z-next c =
    let a = c.args in
    behind (goal.at.returns-then-z-next c).In_ok-layer_refusal 24 (repeat-refused a.sides a.file.now a.start a.next (omega arith))

pub returns-then-z-next-2 : goal.returns-then-z-next-2
returns-then-z-next-2 c =
    let a = c.args in
    behind (goal.at.returns-then-z-next-2 c).In_ok-layer_refusal 27 (skip-refused a.sides a.file.now a.start a.next (omega arith))

pub has_stray-requires : goal.has_stray-requires
has_stray-requires c = right (goal.at.has_stray-requires c).In_ok-layer_refusal

pub returns-then-has_stray : goal.returns-then-has_stray
returns-then-has_stray c =
    behind (goal.at.returns-then-has_stray c).In_ok-layer_refusal 28 (stray-refused _ _ _ _ (due (goal.at.returns-then-has_stray c).Else-z-next-2) _ c.has_stray.ensures c.if-has_stray.true)

pub returns : goal.returns
returns c =
    behind (goal.at.returns c).In_ok-layer_refusal 0 (record-taken _ _ _ _ (due (goal.at.returns c).Else-z-next-2) _ c.has_stray.ensures c.if-has_stray.false)
