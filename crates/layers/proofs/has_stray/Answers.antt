-- `layers::has_stray` meets its contract.
use mathlib.Core.Path.{◌≡◌, refl, ap, ap₂, sym, ◌∙◌}
use mathlib.Core.List.{List}
use Prim.Native.Nat.{ℕ, ◌*◌}
use lib.ListN.{length}
use Rattle.prelude.specs.Lists.{any}
use Rattle.rules.specs.Value.{stray}
use Rattle.words.specs.Widths.{bytes_in}
use Rattle.format.specs.Bytes.{values_of}
use Rattle.format.specs.Layer.{width_at, layer_at, stretch, values_in}
use Rattle.format.proofs.Strays.{narrow-layer}
use Rattle.layers.proofs.Reading.{placed, part-is}
use Rattle.layers.proofs.has_stray.Goals as goal
use Rattle.layers.proofs.has_stray.Goals.{After-layer_values, In-Four}

pub returns-in-Two : goal.returns-in-Two
returns-in-Two c =
    let a = c.args in
    sym (narrow-layer a.sides a.file.now (layer_at a.sides a.file.now a.start) (sym c.width_at.ensures ∙ ap bytes_in c.in-Two.is))

four : (c : In-Four) → width_at c.args.file.now c.args.start ≡ 4
four c = sym c.width_at.ensures ∙ ap bytes_in c.in-Four.is

-- the part is the layer's stretch
part : (c : After-layer_values) → let a = c.args in c.layer_values.result.now ≡ stretch a.file.now (layer_at a.sides a.file.now a.start)
part c = part-is _ _ _ c.requires _ refl _ c.layer_values.ensures

pub any_stray-requires : goal.any_stray-requires
any_stray-requires c =
    ap length (part (goal.at.any_stray-requires c).After-layer_values) ∙ (placed _ _ _ c.requires _ refl).long
    ∙ ap₂ ◌*◌ (four (goal.at.any_stray-requires c).In-Four) (sym c.area.ensures.0)

pub returns-in-Four : goal.returns-in-Four
unfolding values_in
returns-in-Four c =
    let a = c.args in
    let bytes = stretch a.file.now (layer_at a.sides a.file.now a.start) in
    c.any_stray.ensures
    ∙ ap (λ (bs : List ℕ). any stray (values_of 4 c.area.result bs)) (part (goal.at.returns-in-Four c).After-layer_values)
    ∙ ap₂ (λ (width k : ℕ). any stray (values_of width k bytes)) (sym (four (goal.at.returns-in-Four c).In-Four)) c.area.ensures.0
