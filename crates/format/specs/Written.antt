-- Document 02, CR 1, "Grid files out", with CR 5: sides, T and values in, file bytes into a lent buffer.
use Rattle.std.specs.Prelude.{◌≡◌, not, cond, false, ℕ, ◌+◌, ◌-◌, ◌*◌, ltb, eqb, length, take, drop, ℤ}
use mathlib.Core.List.{List, [], ◌∷◌, ◌++◌, flat_map}
use Rattle.prelude.specs.Lists.{any, range}
use Rattle.rules.specs.declared.Sides.{Sides}
use Rattle.rules.specs.Value.{beyond, stray}
use Rattle.rules.specs.Grid.{fit_sides, size}
use Rattle.rules.specs.Checks.{Check, ◌when◌, unless}
use Rattle.rules.specs.Answer.{done, Outcome, outcome, untouched}
use Rattle.format.specs.Bytes.{Width, half, word_bytes, value_bytes}
use Rattle.format.specs.Layer.{kind_of, area, layer_length}
use Rattle.format.specs.File.{header_length}

-- ---- the written form of a grid

-- hex 56 48, three side bytes, T in two bytes
abbrev pub header_form : Sides → ℕ → List ℕ
header_form s T = 0x56 ∷ 0x48 ∷ s.a ∷ s.b ∷ s.c ∷ word_bytes 2 T

-- the a times b values of layer z, in index order
abbrev pub layer_values : Sides → List ℤ → ℕ → List ℤ
layer_values s values z = take (area s) (drop (z * area s) values)

-- two bytes a value where all measured values lie in -32,767 to 32,767, otherwise four throughout
unfoldable pub width_for : List ℤ → ℕ
width_for values = cond (any (beyond 32767) values) 4 2

-- values that so many bytes can say
pub record Held (width : ℕ) (values : List ℤ) : Type 0 where
  pub two-or-four : Width width
  pub each : any (beyond (half width - 1)) values ≡ false

-- values one after the other, of so many bytes each
unfoldable pub values_form : ℕ → List ℤ → List ℕ
values_form width values = flat_map (value_bytes width) values

-- hex 56 4C or hex 56 57, byte z, then the values
abbrev pub layer_form : ℕ → ℕ → List ℤ → List ℕ
layer_form width z values = 0x56 ∷ kind_of width ∷ z ∷ values_form width values

-- the first layers, in rising z
unfoldable pub layers_form : Sides → ℕ → List ℤ → ℕ → List ℕ
layers_form s width values count = flat_map (λ z. layer_form width z (layer_values s values z)) (range 0 count)

abbrev pub written_form : Sides → ℕ → List ℤ → List ℕ
written_form s T values = header_form s T ++ layers_form s (width_for values) values s.c

-- 7 + c times (3 + 2 times a times b), or with 4 for 2: the writer writes layers only
abbrev pub written_length : Sides → List ℤ → ℕ
written_length s values = header_length + s.c * layer_length s (width_for values)

-- ---- write: it answers that length, and bytes past it stay untouched

abbrev pub size_checks : Sides → List ℤ → List Check
size_checks s values =
    1 when not (fit_sides s)
    ∷ 2 when not (eqb (length values) (size s))
    ∷ []

abbrev pub grid_checks : Sides → List ℤ → List Check
grid_checks s values = size_checks s values ++ (28 when any stray values ∷ [])

-- the lent buffer is of so many bytes
abbrev pub write_checks : Sides → List ℤ → ℕ → List Check
write_checks s values lent = grid_checks s values ++ (26 when ltb lent (written_length s values) ∷ [])

abbrev pub written : Sides → ℕ → List ℤ → List ℕ → Outcome (List ℕ) ℕ
written s T values lent = outcome (done (written_length s values)) (written_form s T values ++ drop (written_length s values) lent)

unfoldable pub write : Sides → ℕ → List ℤ → List ℕ → Outcome (List ℕ) ℕ
write s T values lent = unless (write_checks s values (length lent)) (untouched lent) (written s T values lent)
