-- Document 01, "The grid file", with document 02's CR 2, CR 4 and CR 5: the header, the layer records from the bottom up, the patches behind them, and read.
use Rattle.std.specs.Prelude.{◌≡◌, Bool, true, not, ◌&&◌, List, [], ◌∷◌, ◌++◌, ℕ, zero, suc, ◌+◌, ◌≤◌, leb, ltb, eqb, length, ℤ}
use Rattle.prelude.specs.Lists.{any}
use Rattle.rules.specs.declared.Sides.{Sides}
use Rattle.format.specs.declared.Header.{Header}
use Rattle.rules.specs.Value.{stray}
use Rattle.rules.specs.Grid.{fit_sides, size}
use Rattle.rules.specs.Checks.{Check, ◌when◌, unless, AllHold}
use Rattle.rules.specs.Answer.{done, Outcome, outcome, untouched}
use Rattle.format.specs.Bytes.{byte_at, word, tagged}
use Rattle.format.specs.Layer.{record_length, z_at, layer_checks, layer_at, values_in, with_layer}
use Rattle.format.specs.Patch.{patches_checks, patched}

-- ---- the header: hex 56 48, three side bytes, T in two bytes

abbrev pub header_length : ℕ
header_length = 7

abbrev pub sides_in : List ℕ → Sides
sides_in file = record { a = byte_at file 2; b = byte_at file 3; c = byte_at file 4 }

abbrev pub allowed_in : List ℕ → ℕ
allowed_in file = word 2 file 5

-- no side over the greatest that the reader takes
unfoldable pub fit_up_to : ℕ → Sides → Bool
fit_up_to greatest s = fit_sides s && (leb s.a greatest && (leb s.b greatest && leb s.c greatest))

-- the lent buffer is of so many values
abbrev pub header_checks : ℕ → List ℕ → ℕ → List Check
header_checks greatest file lent =
    21 when ltb (length file) header_length
    ∷ 22 when not (tagged 0x48 file 0)
    ∷ 1 when not (fit_up_to greatest (sides_in file))
    ∷ 2 when not (eqb lent (size (sides_in file)))
    ∷ []

-- ---- the layer records: each has its own checks before the next is looked at

-- where the record begins that layer z is due in: behind the header, or else where the record before ends
unfoldable pub layer_start : Sides → List ℕ → ℕ → ℕ
layer_start s file zero = header_length
layer_start s file (suc z) = let start = layer_start s file z in start + record_length s file start

-- layer z + 1 follows layer z, from 0, none skipped; so the z that came before are those below the next. 24 for a repeat, then 27 for all but the next
abbrev pub order_checks : List ℕ → ℕ → ℕ → List Check
order_checks file start next =
    24 when ltb (z_at file start) next
    ∷ 27 when not (eqb (z_at file start) next)
    ∷ []

-- after 24 and 27: a value neither in the range nor the missing mark
abbrev pub range_checks : Sides → List ℕ → ℕ → List Check
range_checks s file start = 28 when any stray (values_in s file (layer_at s file start)) ∷ []

abbrev pub record_checks : Sides → List ℕ → ℕ → ℕ → List Check
record_checks s file start next = layer_checks s file start ++ (order_checks file start next ++ range_checks s file start)

-- as many records as are left, from layer next on
unfoldable pub layers_checks : Sides → List ℕ → ℕ → ℕ → List Check
layers_checks s file zero next = []
layers_checks s file (suc left) next = record_checks s file (layer_start s file next) next ++ layers_checks s file left (suc next)

-- the values after them
unfoldable pub layers_filled : Sides → List ℕ → ℕ → ℕ → List ℤ → List ℤ
layers_filled s file zero next values = values
layers_filled s file (suc left) next values =
    layers_filled s file left (suc next) (with_layer s file values (layer_at s file (layer_start s file next)))

-- ---- the patches: every byte behind the layers belongs to one

abbrev pub layers_end : Sides → List ℕ → ℕ
layers_end s file = layer_start s file s.c

-- ---- read

abbrev pub records_checks : Sides → List ℕ → List Check
records_checks s file = layers_checks s file s.c 0 ++ patches_checks (size s) file (layers_end s file)

abbrev pub read_checks : ℕ → List ℕ → ℕ → List Check
read_checks greatest file lent = header_checks greatest file lent ++ records_checks (sides_in file) file

-- what holds where none of them fails
pub record Accepted (s : Sides) (file : List ℕ) (lent : ℕ) : Type 0 where
  pub whole : header_length ≤ length file
  pub fits : fit_sides s ≡ true
  pub long : lent ≡ size s
  pub layers : AllHold (layers_checks s file s.c 0)
  pub patches : AllHold (patches_checks (size s) file (layers_end s file))

-- the layers with the patches applied in file order
unfoldable pub filled : Sides → List ℕ → List ℤ → List ℤ
filled s file lent = patched file (layers_end s file) (layers_filled s file s.c 0 lent)

-- read answers sides and T, and fills the value buffer
abbrev pub accepted : List ℕ → List ℤ → Outcome (List ℤ) Header
accepted file lent =
    let s = sides_in file in
    outcome (done (record { sides = s; allowed = allowed_in file })) (filled s file lent)

-- read, for sides up to the greatest that the reader takes
unfoldable pub read_up_to : ℕ → List ℕ → List ℤ → Outcome (List ℤ) Header
read_up_to greatest file lent = unless (read_checks greatest file (length lent)) (untouched lent) (accepted file lent)

unfoldable pub read : List ℕ → List ℤ → Outcome (List ℤ) Header
read file lent = read_up_to 64 file lent
