-- `gridfile::read_up_to` meets its contract.
use mathlib.Core.Path.{ap, sym, ◌∙◌}
use native.Mathlib.Omega.{arith}
use lib.ListN.{length}
use Rattle.rules.specs.Answer.{Reply, outcome, untouched}
use Rattle.rules.proofs.Checks.{all_hold}
use Rattle.rules.proofs.Refusals.{call-refused-by, call-passed}
use Rattle.format.specs.declared.Header.{Header}
use Rattle.layers.proofs.Reading.{refused_on}
use Rattle.format.specs.File.{sides_in, read_checks, Accepted, accepted, read_up_to}
use Rattle.format.proofs.Headers.{read-numbered, is-accepted}
use Rattle.gridfile.proofs.read_up_to.Goals as goal
use Rattle.gridfile.proofs.read_up_to.Goals.{In_ok-refusal}

-- past the checks
right : (c : In_ok-refusal) → let a = c.args in Accepted (sides_in a.file.now) a.file.now (length a.values.now)
right c =
    let a = c.args in
    is-accepted a.greatest _ _
    (all_hold _ (read-numbered a.greatest a.file.now (length a.values.now)) (sym c.in_ok-refusal.ensures))

pub returns-in_err-refusal : goal.returns-in_err-refusal
unfolding read_up_to
returns-in_err-refusal c =
    let a = c.args in
    ap (λ (r : Reply Header). outcome r a.values.now) (refused_on _ _ c.from_residual.ensures.1)
    ∙ call-refused-by (untouched a.values.now) (accepted a.file.now a.values.now) _ _ c.in_err-refusal.ensures

pub sides_in-sides-requires : goal.sides_in-sides-requires
sides_in-sides-requires c = (right c).whole

pub fill-requires : goal.fill-requires
fill-requires c = rw c.sides_in-sides.ensures (right (goal.at.fill-requires c).In_ok-refusal)

pub word-requires : goal.word-requires
word-requires c = omega (arith, (right (goal.at.word-requires c).In_ok-refusal).whole)

-- T has two bytes
pub overflow_cast-result : goal.overflow_cast-result
overflow_cast-result c = omega (arith, c.word.ensures.1)

pub returns : goal.returns
unfolding read_up_to
returns c =
    let a = c.args in
    call-passed (untouched a.values.now) (accepted a.file.now a.values.now) (read_checks a.greatest a.file.now (length a.values.now))
    (read-numbered a.greatest a.file.now (length a.values.now)) c.in_ok-refusal.ensures _
    (simp (c.word.ensures.0, c.fill.ensures, c.sides_in-sides.ensures))
