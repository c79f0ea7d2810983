-- `writing::write` meets its contract.
use mathlib.Core.Path.{◌≡◌, refl, ap, sym, ◌∙◌}
use Prim.Native.Nat.{ℕ, ◌+◌, ◌*◌, ◌≤◌}
use lib.ListN.{length}
use Rattle.rules.specs.Checks.{AllHold}
use Rattle.rules.specs.Answer.{Reply, outcome}
use Rattle.rules.proofs.Refusals.{numbers}
use Rattle.layers.proofs.Reading.{refused_on}
use Rattle.format.specs.Layer.{layer_length}
use Rattle.format.specs.File.{header_length}
use Rattle.format.specs.Written.{written_length, grid_checks}
use Rattle.format.proofs.Written.{all-written}
use Rattle.writing.proofs.Checking.{grid-fits, has_room, size-refused, stray-refused, grid-holds, room-refused}
use Rattle.writing.proofs.write.Goals as goal
use Rattle.writing.proofs.write.Goals.{After-written_length-length, Else-any_stray, Else-file-length, In_ok-size_refusal}

pub returns-in_err-size_refusal : goal.returns-in_err-size_refusal
returns-in_err-size_refusal c =
    let a = c.args in
    ap (λ (r : Reply ℕ). outcome r a.file.now) (refused_on _ _ c.from_residual.ensures.1)
    ∙ size-refused _ _ _ _ _ c.in_err-size_refusal.ensures (numbers c.in_err-size_refusal.field-0.0)

pub any_stray-requires : goal.any_stray-requires
any_stray-requires c = c.width_for-width.ensures

pub returns-then-any_stray : goal.returns-then-any_stray
returns-then-any_stray c =
    stray-refused _ _ _ _ _ c.in_ok-size_refusal.ensures refl (sym c.any_stray.ensures ∙ c.if-any_stray.true)

right : (c : Else-any_stray) → let a = c.args in AllHold (grid_checks a.sides a.values.now)
right c =
    grid-holds _ 0 _ c.args.file.now _ c.in_ok-size_refusal.ensures refl (sym c.any_stray.ensures ∙ c.if-any_stray.false)

pub written_length-length-requires : goal.written_length-length-requires
written_length-length-requires c = grid-fits _ _ (right c)

-- the length, by the width that the code found
length-is : (c : After-written_length-length) → let a = c.args in
    c.written_length-length.result ≡ written_length a.sides a.values.now
length-is c =
    let s = c.args.sides in
    c.written_length-length.ensures ∙ ap (λ (w : ℕ). header_length + s.c * layer_length s w) c.width_for-width.ensures

-- behind the third: it has room
roomy : (c : Else-file-length) → let a = c.args in
    written_length a.sides a.values.now ≤ length a.file.now
roomy c =
    let s = c.args.sides in
    rw (c.written_length-length.ensures ∙ ap (λ (w : ℕ). header_length + s.c * layer_length s w) c.width_for-width.ensures)
    at c.if-file-length.false

pub returns-then-file-length : goal.returns-then-file-length
returns-then-file-length c = room-refused _ _ _ _ (right (goal.at.returns-then-file-length c).Else-any_stray) (rw (length-is (goal.at.returns-then-file-length c).After-written_length-length) at c.if-file-length.true)

pub write_file-requires : goal.write_file-requires
write_file-requires c =
    (has_room _ _ (right (goal.at.write_file-requires c).Else-any_stray) _ (roomy (goal.at.write_file-requires c).Else-file-length), c.width_for-width.ensures)

pub returns : goal.returns
returns c =
    rw (length-is (goal.at.returns c).After-written_length-length, c.write_file.ensures) (all-written _ _ _ _ (right (goal.at.returns c).Else-any_stray) (roomy (goal.at.returns c).Else-file-length))
