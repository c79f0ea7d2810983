-- Values that are neither in the range nor the missing mark: those of a record by index, and none among values of two bytes.
use mathlib.Core.Path.{◌≡◌, ap, ◌∙◌}
use mathlib.Core.Bool.{false}
use mathlib.Core.List.{List}
use Prim.Native.Nat.{ℕ, ◌*◌}
use Rattle.prelude.specs.Lists.{any, range}
use Rattle.prelude.proofs.Lists.{any-map}
use Rattle.prelude.proofs.Ranges.{below_none}
use Rattle.rules.specs.declared.Sides.{Sides}
use Rattle.rules.specs.Value.{stray}
use Rattle.format.specs.declared.LayerSpan.{LayerSpan}
use Rattle.format.specs.Bytes.{value_of, values_of}
use Rattle.format.specs.Layer.{area, stretch, values_in}
use Rattle.format.proofs.Widening.{widening}

pub strays-by-index :
    (width count : ℕ) (bytes : List ℕ) → any stray (values_of width count bytes) ≡ any (λ k. stray (value_of width bytes (width * k))) (range 0 count)
unfolding values_of
strays-by-index width count bytes = any-map stray (λ k. value_of width bytes (width * k)) (range 0 count)

pub narrow-no-strays : (count : ℕ) (bytes : List ℕ) → any stray (values_of 2 count bytes) ≡ false
narrow-no-strays count bytes =
    strays-by-index 2 count bytes ∙ below_none (λ k. stray (value_of 2 bytes (2 * k))) count (λ k h. widening.in-range bytes (2 * k))

pub narrow-layer : (s : Sides) (file : List ℕ) (l : LayerSpan) → l.width ≡ 2 → any stray (values_in s file l) ≡ false
unfolding values_in
narrow-layer s file l e =
    ap (λ (width : ℕ). any stray (values_of width (area s) (stretch file l))) e ∙ narrow-no-strays (area s) (stretch file l)
