-- `layers::fill_layer` meets its contract.
use mathlib.Core.Path.{◌∙◌}
use native.Mathlib.Omega.{arith}
use mir.Facts.{to_z-of_z}
use borrow.Author.Rules.{sfits_of}
use Rattle.prelude.proofs.Filling.{filling-start, filling-next, filling-done}
use Rattle.format.specs.Bytes.{values_of}
use Rattle.format.proofs.Sizes.{value_room}
use mir.Syntax.{w32}
use Rattle.layers.proofs.fill_layer.Goals as goal

pub loop-i-init : goal.loop-i-init
loop-i-init c = filling-start _ _ _

pub value_at-requires : goal.value_at-requires
value_at-requires c = value_room _ _ _ _ c.requires (omega (arith, c.loop-i.invariant.long))

pub loop-i-preserved : goal.loop-i-preserved
loop-i-preserved c =
    filling-next _ _ _ _ _ _ c.loop-i.invariant (omega (arith, c.loop-i.invariant.long)) (to_z-of_z (sfits_of {w = w32} c.value_at.type_inv) ∙ c.value_at.ensures)

pub shape_of-values : goal.shape_of-values
shape_of-values c = c.loop-i.invariant.long

pub returns : goal.returns
unfolding values_of
returns c = filling-done _ _ _ _ _ c.loop-i.invariant (omega (arith, c.loop-i.invariant.long))
