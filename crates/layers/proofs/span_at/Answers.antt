-- `layers::span_at` meets its contract.
use mathlib.Core.Path.{◌≡◌, refl, ap, sym, ◌∙◌}
use mathlib.Core.Bool.{true, not}
use native.Mathlib.Omega.{arith}
use Rattle.rules.specs.Grid.{fit_sides}
use Rattle.rules.specs.Checks.{first_failing}
use Rattle.rules.specs.Answer.{refused, done}
use Rattle.rules.proofs.Checks.{fails-first, holds-first, call-refused, all_hold}
use Rattle.rules.proofs.Refusals.{call-refused-by, call-passed}
use Rattle.format.specs.Layer.{layer_checks, read_layer_checks, layer_at, read_layer}
use Rattle.layers.specs.Readable.{Readable}
use Rattle.layers.proofs.Reading.{refused_on, readable}
use Rattle.layers.proofs.span_at.Goals as goal
use Rattle.layers.proofs.span_at.Goals.{In_ok-layer_refusal, Else-not-fit_sides}

fits : (c : Else-not-fit_sides) → fit_sides c.args.sides ≡ true
fits c = sym c.fit_sides.ensures ∙ c.if-not-fit_sides.false

-- the check of the sides holds, before the others
sides-hold : (c : Else-not-fit_sides) → let a = c.args in
    first_failing (read_layer_checks a.sides a.file.now a.start) ≡ first_failing (layer_checks a.sides a.file.now a.start)
sides-hold c = holds-first 1 _ _ (ap not (fits c))

right : (c : In_ok-layer_refusal) → let a = c.args in Readable a.sides a.file.now a.start
right c = readable _ _ _ (fits (goal.at.layer_at-requires c).Else-not-fit_sides) (all_hold _ refl (sym c.in_ok-layer_refusal.ensures))

pub returns-then-not-fit_sides : goal.returns-then-not-fit_sides
unfolding read_layer
returns-then-not-fit_sides c =
    let a = c.args in
    call-refused refused (done (layer_at a.sides a.file.now a.start)) (read_layer_checks a.sides a.file.now a.start) 1
    (sym (fails-first 1 _ _ (sym (ap not c.fit_sides.ensures) ∙ (ap not c.if-not-fit_sides.true)))) (λ e. omega arith)

pub layer_refusal-requires : goal.layer_refusal-requires
layer_refusal-requires c = fits c

pub returns-in_err-layer_refusal : goal.returns-in_err-layer_refusal
unfolding read_layer
returns-in_err-layer_refusal c =
    let a = c.args in
    refused_on _ _ c.from_residual.ensures.1
    ∙ call-refused-by refused _ _ _ (c.in_err-layer_refusal.ensures ∙ sym (sides-hold (goal.at.returns-in_err-layer_refusal c).Else-not-fit_sides))

pub layer_at-requires : goal.layer_at-requires
layer_at-requires c = right c

pub returns : goal.returns
unfolding read_layer
returns c =
    call-passed refused _ _ refl (c.in_ok-layer_refusal.ensures ∙ sym (sides-hold (goal.at.returns c).Else-not-fit_sides)) _ (ap done c.layer_at.ensures)
