-- The written form by its parts, of either width: how long each is, and one more at the end.
use mathlib.Core.Path.{◌≡◌, refl, ap, ap₂, sym, ◌∙◌}
use mathlib.Core.List.{List, [], ◌∷◌, ◌++◌, flat_map, append_assoc, append-nil}
use Prim.Native.Nat.{ℕ, zero, suc, ◌+◌, ◌*◌, ◌≤◌, ◌<◌}
use native.Mathlib.Omega.{arith}
use lib.ListN.{length, take, drop, get_or, length-append, length-drop}
use lib.Seq.{length-take-le, take-suc}
use lib.IntN.{ℤ, pos}
use Rattle.prelude.specs.Lists.{range}
use Rattle.prelude.proofs.Ranges.{range-suc}
use Rattle.rules.specs.declared.Sides.{Sides}
use Rattle.rules.specs.Grid.{size}
use Rattle.format.specs.Bytes.{value_bytes}
use Rattle.format.specs.Layer.{area, layer_length}
use Rattle.format.specs.Written.{layer_values, values_form, layer_form, layers_form}
use Rattle.format.proofs.Bytes.{length-values_bytes}
use Rattle.format.proofs.Sizes.{layer-room}

-- ---- lists one after the other

module _ {A B : Type 0} (f : A → List B) where
  pub flat_map-append : (xs ys : List A) → flat_map f (xs ++ ys) ≡ flat_map f xs ++ flat_map f ys
  unfolding flat_map
  flat_map-append [] ys = refl
  flat_map-append (x ∷ xs) ys = ap (λ (r : List B). f x ++ r) (flat_map-append xs ys) ∙ sym (append_assoc (f x) (flat_map f xs) (flat_map f ys))

  -- one more at the end
  pub flat_map-snoc : (xs : List A) (y : A) → flat_map f (xs ++ (y ∷ [])) ≡ flat_map f xs ++ f y
  unfolding flat_map
  flat_map-snoc xs y = flat_map-append xs (y ∷ []) ∙ ap (λ (r : List B). flat_map f xs ++ r) (append-nil (f y))

-- ---- values

module _ (width : ℕ) (values : List ℤ) where
  pub length-values_form : length (values_form width values) ≡ width * length values
  unfolding values_form
  length-values_form = length-values_bytes width values

  pub values_form-next :
      (i : ℕ) → i < length values
      → values_form width (take (suc i) values) ≡ values_form width (take i values) ++ value_bytes width (get_or values i (pos 0))
  unfolding values_form
  values_form-next i h = ap (values_form width) (take-suc values i (pos 0) h) ∙ flat_map-snoc (value_bytes width) (take i values) (get_or values i (pos 0))

-- ---- records

module _ (s : Sides) (width : ℕ) (values : List ℤ) where
  -- that of layer z; those of as many layers as are left, from z on
  abbrev pub record_form : ℕ → List ℕ
  record_form z = layer_form width z (layer_values s values z)

  abbrev pub records_from : ℕ → ℕ → List ℕ
  records_from z left = flat_map record_form (range z left)

  pub layers_form-next : (z : ℕ) → layers_form s width values (suc z) ≡ layers_form s width values z ++ record_form z
  unfolding layers_form
  layers_form-next z =
      let e : 0 + z ≡ z = omega arith in
      ap (flat_map record_form) (range-suc 0 z ∙ ap (λ (k : ℕ). range 0 z ++ (k ∷ [])) e) ∙ flat_map-snoc record_form (range 0 z) z

  module _ (long : length values ≡ size s) where
    pub length-layer_values : (z : ℕ) → z < s.c → length (layer_values s values z) ≡ area s
    length-layer_values z h =
        length-take-le (area s) (drop (z * area s) values) (omega (arith, length-drop (z * area s) values, layer-room s z (area s) refl h))

    pub length-layer : (z : ℕ) → z < s.c → length (values_form width (layer_values s values z)) ≡ width * area s
    length-layer z h = length-values_form width (layer_values s values z) ∙ ap (λ (n : ℕ). width * n) (length-layer_values z h)

    pub length-record_form : (z : ℕ) → z < s.c → length (record_form z) ≡ layer_length s width
    length-record_form z h = omega (arith, length-layer z h)

    pub length-records_from : (z left : ℕ) → z + left ≤ s.c → length (records_from z left) ≡ left * layer_length s width
    unfolding flat_map range
    length-records_from z zero h = omega arith
    length-records_from z (suc left) h =
        length-append (record_form z) (records_from (suc z) left)
        ∙ ap₂ ◌+◌ (length-record_form z (omega arith)) (length-records_from (suc z) left (omega arith))
        ∙ omega arith

    pub length-layers_form : (count : ℕ) → count ≤ s.c → length (layers_form s width values count) ≡ count * layer_length s width
    unfolding layers_form
    length-layers_form count h = length-records_from 0 count (omega arith)
