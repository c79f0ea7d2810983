-- `gridfile::records_refusal` meets its contract.
use mathlib.Core.Path.{refl, ap, sym, ◌∙◌}
use Prim.Native.Nat.{ℕ}
use native.Mathlib.Omega.{arith}
use Rattle.rules.specs.Checks.{first_failing}
use Rattle.rules.proofs.Checks.{all_hold, deciding-refused, deciding-next}
use Rattle.rules.proofs.Refusals.{numbers, handed_on}
use Rattle.format.specs.Patch.{patches_checks}
use Rattle.layers.specs.Readable.{Readable}
use Rattle.gridfile.proofs.Checking.{record-readable, reached-start, reached-record, reached-next, reached-patches}
use Rattle.gridfile.proofs.records_refusal.Goals as goal
use Rattle.gridfile.proofs.records_refusal.Goals.{In_ok-record_refusal}

-- past the record's checks
right : (c : In_ok-record_refusal) → let l = c in let a = l.args in
    Readable a.sides a.file.now l.loop-next.start
right c =
    record-readable _ _ _ c.loop-next.next c.requires.0 (all_hold _ refl (sym c.in_ok-record_refusal.ensures))

pub loop-next-init : goal.loop-next-init
loop-next-init c = reached-start _ _

pub record_refusal-requires : goal.record_refusal-requires
record_refusal-requires c = c.requires.0

pub returns-in_err-record_refusal : goal.returns-in_err-record_refusal
returns-in_err-record_refusal c =
    handed_on _ _ c.from_residual.ensures.1
    ∙ deciding-refused _ _ _ (reached-record _ _ _ _ c.loop-next.invariant (omega arith)) _ c.in_err-record_refusal.ensures (numbers c.in_err-record_refusal.field-0.0)

pub record_length-start-requires : goal.record_length-start-requires
record_length-start-requires c = (right c).fits

pub overflow_add-start : goal.overflow_add-start
overflow_add-start c = omega (arith, (right (goal.at.overflow_add-start c).In_ok-record_refusal).whole, c.record_length-start.ensures.0)

pub loop-next-preserved : goal.loop-next-preserved
loop-next-preserved c =
    let i = c.loop-next.invariant in
    reached-next _ _ _ _ i (omega arith)
    (deciding-next _ _ _ (reached-record _ _ _ _ i (omega arith)) _ c.in_ok-record_refusal.ensures refl refl) _ _
    (omega (arith, c.record_length-start.ensures.0)) (omega arith)

pub returns : goal.returns
returns c =
    let a = c.args in
    c.patches_refusal.ensures
    ∙ ap (λ (n : ℕ). first_failing (patches_checks n a.file.now c.loop-next.start)) c.requires.1
    ∙ reached-patches _ _ _ _ c.loop-next.invariant (omega arith)
