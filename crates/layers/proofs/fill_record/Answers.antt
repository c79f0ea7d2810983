-- `layers::fill_record` meets its contract.
use mathlib.Core.Path.{◌≡◌, ap, sym, ◌∙◌}
use mathlib.Core.List.{List, ◌++◌}
use Prim.Native.Nat.{ℕ, ◌+◌, ◌-◌, ◌*◌, ◌≤◌, ◌<◌}
use native.Mathlib.Omega.{arith}
use lib.ListN.{length, take, drop}
use lib.IntN.{ℤ}
use Rattle.rules.specs.declared.Sides.{Sides}
use Rattle.rules.specs.Grid.{size}
use Rattle.format.specs.declared.LayerSpan.{LayerSpan}
use Rattle.format.specs.Bytes.{values_of}
use Rattle.format.specs.Layer.{area, stretch, with_layer}
use Rattle.format.proofs.Sizes.{size_small, layer-room, length_part, with_layer-middle}
use Rattle.layers.proofs.Reading.{Placed, placed, part-is}
use Rattle.words.specs.Widths.{bytes_in}
use Rattle.layers.proofs.fill_record.Goals as goal
use Rattle.layers.proofs.fill_record.Goals.{After-area-count, After-from, After-layer_at-l, After-width_at}

-- where the layer lies in the file, and in the buffer
lies : (c : After-layer_at-l) → let a = c.args in Placed a.sides a.file.now c.layer_at-l.result
lies c = placed _ _ _ c.requires.0 _ c.layer_at-l.ensures

-- the part is its stretch
part : (c : After-layer_at-l) → c.layer_values-bytes.result.now ≡ stretch c.args.file.now c.layer_at-l.result
part c = part-is _ _ _ c.requires.0 _ c.layer_at-l.ensures _ c.layer_values-bytes.ensures

room : (c : After-area-count) → c.layer_at-l.result.z * c.area-count.result + c.area-count.result ≤ size c.args.sides
room c = layer-room _ _ _ c.area-count.ensures.0 (placed _ _ _ c.requires.0 _ c.layer_at-l.ensures).z-below

small : (c : After-area-count) → size c.args.sides ≤ 262144
small c = size_small _ c.requires.0.fits

-- by the numbers as the code has them
begins : (c : After-from) → c.from.result * c.area-count.result ≡ c.layer_at-l.result.z * c.area-count.result
begins c = ap (λ (z : ℕ). z * c.area-count.result) c.from.ensures

middle :
    (s : Sides) (file : List ℕ) (values new : List ℤ) (l : LayerSpan) (n z width : ℕ) (bytes : List ℕ)
    → z ≡ l.z
    → width ≡ l.width
    → bytes ≡ stretch file l
    → n ≡ area s
    → l.z < s.c
    → length values ≡ size s
    → let at = z * n in
    new ≡ values_of width (length (take (at + n - at) (drop at values))) bytes
    → take at values ++ (new ++ drop (at + n - at) (drop at values)) ≡ with_layer s file values l
middle s file values new l n z width bytes ez ew eb e below long filled =
    rw ez (with_layer-middle s file values new l n e below long (rw (ez, ew, eb) at filled))

pub overflow_mul-at : goal.overflow_mul-at
overflow_mul-at c = omega (arith, room (goal.at.overflow_mul-at c).After-area-count, small (goal.at.overflow_mul-at c).After-area-count, begins (goal.at.overflow_mul-at c).After-from)

pub overflow_add-end : goal.overflow_add-end
overflow_add-end c = omega (arith, room (goal.at.overflow_add-end c).After-area-count, small (goal.at.overflow_add-end c).After-area-count, begins (goal.at.overflow_add-end c).After-from)

pub offset_bounds-values-at : goal.offset_bounds-values-at
offset_bounds-values-at c = omega (arith, room (goal.at.offset_bounds-values-at c).After-area-count, small (goal.at.offset_bounds-values-at c).After-area-count, begins (goal.at.offset_bounds-values-at c).After-from)

pub slice_bounds-fill_layer-end : goal.slice_bounds-fill_layer-end
slice_bounds-fill_layer-end c = omega (arith, room (goal.at.slice_bounds-fill_layer-end c).After-area-count, c.requires.1, begins (goal.at.slice_bounds-fill_layer-end c).After-from)

-- the width that the code has is the layer's
width : (c : After-width_at) → bytes_in c.width_at.result ≡ c.layer_at-l.result.width
width c = c.width_at.ensures ∙ sym (ap (λ (l : LayerSpan). l.width) c.layer_at-l.ensures)

pub fill_layer-requires : goal.fill_layer-requires
fill_layer-requires c =
    let l = c.layer_at-l.result in
    let p = lies (goal.at.fill_layer-requires c).After-layer_at-l in
    let count : ℕ = c.area-count.result in
    let at : ℕ = c.from.result * count in
    let values = length_part c.args.values.now at (at + count) (omega arith) (omega (arith, room (goal.at.fill_layer-requires c).After-area-count, c.requires.1, begins (goal.at.fill_layer-requires c).After-from)) in
    rw (width (goal.at.fill_layer-requires c).After-width_at)
    (ap length (part (goal.at.fill_layer-requires c).After-layer_at-l) ∙ p.long ∙ ap (λ (k : ℕ). l.width * k) (sym c.area-count.ensures.0 ∙ sym (values ∙ omega arith)))

pub returns : goal.returns
returns c =
    let a = c.args in (
      middle a.sides a.file.now a.values.now _ c.layer_at-l.result _ _ _ _ c.from.ensures (width (goal.at.returns c).After-width_at) (part (goal.at.returns c).After-layer_at-l) c.area-count.ensures.0
          (lies (goal.at.returns c).After-layer_at-l).z-below c.requires.1 c.fill_layer.ensures
          ∙ ap (with_layer a.sides a.file.now a.values.now) c.layer_at-l.ensures,
      ap (λ (l : LayerSpan). l.to) c.layer_at-l.ensures,
    )
