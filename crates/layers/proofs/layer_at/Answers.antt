-- `layers::layer_at` meets its contract.
use mathlib.Core.Path.{refl, ap, ◌∙◌}
use Prim.Native.Nat.{ℕ, ◌+◌}
use native.Mathlib.Omega.{arith}
use Rattle.format.specs.Layer.{layer_length}
use Rattle.format.proofs.Sizes.{width_small}
use Rattle.layers.proofs.Reading.{span-is}
use Rattle.words.proofs.Widths.{two-or-four}
use Rattle.layers.proofs.layer_at.Goals as goal

pub overflow_cast-result : goal.overflow_cast-result
overflow_cast-result c = omega (arith, width_small _ (two-or-four c.width_at-width.result), c.bytes.ensures)

pub returns : goal.returns
returns c =
    let a = c.args in
    let long = c.layer_length.ensures.0 ∙ ap (layer_length a.sides) c.width_at-width.ensures in
    span-is _ _ refl (c.bytes.ensures ∙ c.width_at-width.ensures) (omega arith) (ap (λ (k : ℕ). a.start + k) long)
