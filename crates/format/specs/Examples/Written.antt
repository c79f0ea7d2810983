-- Worked writings, as theorems by computation (proofs/Examples/Written.antt): which width a grid gets, each number, and which of two comes first.
use Rattle.std.specs.Prelude.{◌≡◌, List, [], ◌∷◌, ◌++◌, ℕ, replicate, take, drop, ℤ, pos, negsuc}
use Rattle.rules.specs.Grid.{missing}
use Rattle.rules.specs.Answer.{refused, done, outcome}
use Rattle.rules.specs.Cases.{sides, values_d}
use Rattle.format.specs.File.{read}
use Rattle.format.specs.Written.{header_form, width_for, layer_form, written_form, written_length, write}
use Rattle.format.specs.RoundTrip.{Writable, grid as grid_of}
use Rattle.format.specs.Examples.Layer.{wide_record}
use Rattle.format.specs.Examples.File.{file_d, three, file, layer, wide_layer}

-- so many bytes, each hex A5
abbrev pub lent : ℕ → List ℕ
lent n = replicate n 0xA5

-- three layers alike, of a grid of 3, 3, 3
abbrev pub alike : List ℤ → List ℤ
alike l = l ++ (l ++ l)

abbrev pub values : List ℤ
values = alike layer

-- some values of it need four bytes
abbrev pub wide_values : List ℤ
wide_values = alike wide_layer

-- a grid of 3, 3, 3 whose first value is missing and whose last is v
abbrev pub ending : ℤ → List ℤ
ending v = missing ∷ replicate 25 (pos 7) ++ (v ∷ [])

pub record Examples : Type 0 where
  -- there are grids that write takes: one of missing marks, with the greatest T; one with values of four bytes
  pub takes : Writable (sides 3 3 3) 0xFFFF (replicate 27 missing)
  pub takes-wide : Writable (sides 3 3 3) 0 wide_values
  -- the sides in order, then T, low byte first
  pub header : header_form (sides 3 4 5) 0x0102 ≡ 0x56 ∷ 0x48 ∷ 3 ∷ 4 ∷ 5 ∷ 0x02 ∷ 0x01 ∷ []
  pub record-of-a-layer : layer_form 2 7 (pos 6 ∷ negsuc 5 ∷ []) ≡ 0x56 ∷ 0x4C ∷ 7 ∷ 0x06 ∷ 0x00 ∷ 0xFA ∷ 0xFF ∷ []
  -- a wide layer: 6, -6, missing
  pub record-of-a-wide-layer :
      layer_form 4 7 (pos 6 ∷ negsuc 5 ∷ missing ∷ [])
      ≡ 0x56 ∷ 0x57 ∷ 7 ∷ 0x06 ∷ 0x00 ∷ 0x00 ∷ 0x00 ∷ 0xFA ∷ 0xFF ∷ 0xFF ∷ 0xFF ∷ 0x00 ∷ 0x00 ∷ 0x00 ∷ 0x80 ∷ []
  -- one measured value beyond 32,767 or -32,767 makes all layers wide; missing points do not
  pub narrow_high : width_for (ending (pos 32767)) ≡ 2
  pub wide_high : width_for (ending (pos 32768)) ≡ 4
  pub narrow-low : width_for (ending (negsuc 32766)) ≡ 2
  pub wide_low : width_for (ending (negsuc 32767)) ≡ 4
  pub narrow-missing :
      take 14 (written_form (sides 3 3 3) 0xFFFF (replicate 27 missing))
      ≡ 0x56 ∷ 0x48 ∷ 3 ∷ 3 ∷ 3 ∷ 0xFF ∷ 0xFF ∷ 0x56 ∷ 0x4C ∷ 0 ∷ 0x00 ∷ 0x80 ∷ 0x00 ∷ 0x80 ∷ []
  pub case-d : written_form (sides 4 4 3) 0 values_d ≡ file_d
  -- layers go out in rising z, each with its own values: the first has the missing one
  pub first-layer-first : take 5 (drop 7 (written_form (sides 3 3 3) 0 (ending (pos 5)))) ≡ 0x56 ∷ 0x4C ∷ 0 ∷ 0x00 ∷ 0x80 ∷ []
  pub longest : written_length (sides 64 64 64) (ending (pos 32767)) ≡ 524487
  pub longest-wide : written_length (sides 64 64 64) (ending (pos 32768)) ≡ 1048775
  -- a buffer of just that length; of two bytes more, which stay
  pub grid : write (sides 3 3 3) 0x0102 values (lent 70) ≡ outcome (done 70) (file 0 1 2)
  pub rest-stays : write (sides 3 3 3) 0x0102 values (lent 72) ≡ outcome (done 70) (file 0 1 2 ++ lent 2)
  pub wide-grid : write (sides 3 3 3) 0x0102 wide_values (lent 124) ≡ outcome (done 124) (three (wide_record 0) (wide_record 1) (wide_record 2))
  -- reading gives the grid back
  pub read_back : let grid = ending (negsuc 32766) in
      read (written_form (sides 3 3 3) 0x0102 grid) (replicate 27 (pos 0)) ≡ grid_of (sides 3 3 3) 0x0102 grid
  pub read-back-wide : let grid = ending (negsuc 32767) in
      read (written_form (sides 3 3 3) 0x0102 grid) (replicate 27 (pos 0)) ≡ grid_of (sides 3 3 3) 0x0102 grid
  -- each number; what was lent stays
  pub small-side : write (sides 3 2 3) 0 values (lent 70) ≡ outcome (refused 1) (lent 70)
  pub large-side : write (sides 65 3 3) 0 values (lent 70) ≡ outcome (refused 1) (lent 70)
  pub too_few : write (sides 3 3 3) 0 (take 26 values) (lent 70) ≡ outcome (refused 2) (lent 70)
  pub too_many : write (sides 3 3 3) 0 (pos 1 ∷ values) (lent 70) ≡ outcome (refused 2) (lent 70)
  pub too-high : write (sides 3 3 3) 0 (ending (pos 1000000001)) (lent 124) ≡ outcome (refused 28) (lent 124)
  pub too-low : write (sides 3 3 3) 0 (ending (negsuc 1000000000)) (lent 124) ≡ outcome (refused 28) (lent 124)
  pub no_room : write (sides 3 3 3) 0 values (lent 69) ≡ outcome (refused 26) (lent 69)
  pub no-room-wide : write (sides 3 3 3) 0 wide_values (lent 123) ≡ outcome (refused 26) (lent 123)
  -- the first of two
  pub sides-before-values : write (sides 3 3 65) 0 [] (lent 70) ≡ outcome (refused 1) (lent 70)
  pub values-before-range : write (sides 3 3 3) 0 (pos 1000000001 ∷ []) (lent 70) ≡ outcome (refused 2) (lent 70)
  pub values-before-room : write (sides 3 3 3) 0 [] [] ≡ outcome (refused 2) []
  pub range-before-room : write (sides 3 3 3) 0 (ending (pos 1000000001)) [] ≡ outcome (refused 28) []
