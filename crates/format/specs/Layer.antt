-- Document 01, "The grid file", with document 02's CR 5: a layer record, its checks, reading it, and its values in the buffer of the whole grid.
use Rattle.std.specs.Prelude.{not, cond, ◌||◌, List, [], ◌∷◌, ◌++◌, ℕ, ◌+◌, ◌-◌, ◌*◌, leb, ltb, eqb, length, take, drop, ℤ}
use Rattle.rules.specs.declared.Sides.{Sides}
use Rattle.rules.specs.Grid.{fit_sides}
use Rattle.rules.specs.Checks.{Check, ◌when◌, unless}
use Rattle.rules.specs.Answer.{Reply, refused, done}
use Rattle.format.specs.declared.LayerSpan.{LayerSpan}
use Rattle.format.specs.Bytes.{byte_at, tagged, values_of}

-- ---- hex 56 4C, byte z, then a times b values of two bytes in index order; or hex 56 57 with four bytes a value

abbrev pub narrow_kind : ℕ
narrow_kind = 0x4C

abbrev pub wide_kind : ℕ
wide_kind = 0x57

-- of a record whose values have so many bytes
abbrev pub kind_of : ℕ → ℕ
kind_of width = cond (eqb width 4) wide_kind narrow_kind

abbrev pub area : Sides → ℕ
area s = s.a * s.b

abbrev pub layer_length : Sides → ℕ → ℕ
layer_length s width = 3 + width * area s

-- four bytes a value if a record's first two bytes are the wide mark, otherwise two: so it is measured before its mark is looked at
unfoldable pub width_at : List ℕ → ℕ → ℕ
width_at file start = cond (tagged wide_kind file start) 4 2

abbrev pub record_length : Sides → List ℕ → ℕ → ℕ
record_length s file start = layer_length s (width_at file start)

abbrev pub z_at : List ℕ → ℕ → ℕ
z_at file start = byte_at file (start + 2)

-- ---- the checks of a record that begins at start

abbrev pub layer_checks : Sides → List ℕ → ℕ → List Check
layer_checks s file start =
    21 when ltb (length file) (start + record_length s file start)
    ∷ 22 when not (tagged narrow_kind file start || tagged wide_kind file start)
    ∷ 23 when leb s.c (z_at file start)
    ∷ []

-- of a record that is read by itself: nobody has looked at the sides yet
abbrev pub read_layer_checks : Sides → List ℕ → ℕ → List Check
read_layer_checks s file start = 1 when not (fit_sides s) ∷ layer_checks s file start

-- ---- reading a layer: its z, the bytes of a value, and from which byte of the file up to which its values stand

abbrev pub layer_at : Sides → List ℕ → ℕ → LayerSpan
layer_at s file start = record { z = z_at file start; width = width_at file start; from = start + 3; to = start + record_length s file start }

unfoldable pub read_layer : Sides → List ℕ → ℕ → Reply LayerSpan
read_layer s file start = unless (read_layer_checks s file start) refused (done (layer_at s file start))

-- the value bytes, as a stretch of the file
abbrev pub stretch : List ℕ → LayerSpan → List ℕ
stretch file l = take (l.to - l.from) (drop l.from file)

-- what is handed back: those bytes with z and width, or else the number with no bytes
pub record Part : Type 0 where
  pub bytes : List ℕ
  pub answer : Reply LayerSpan

abbrev pub bytes_of : List ℕ → Reply LayerSpan → List ℕ
bytes_of file (refused n) = []
bytes_of file (done l) = stretch file l

abbrev pub handed_back : List ℕ → Reply LayerSpan → Part
handed_back file r = record { bytes = bytes_of file r; answer = r }

-- ---- its values

unfoldable pub values_in : Sides → List ℕ → LayerSpan → List ℤ
values_in s file l = values_of l.width (area s) (stretch file l)

-- the values of the whole grid, with a layer's where they belong
unfoldable pub with_layer : Sides → List ℕ → List ℤ → LayerSpan → List ℤ
with_layer s file values l = take (l.z * area s) values ++ (values_in s file l ++ drop (l.z * area s + area s) values)
