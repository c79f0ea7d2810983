-- Document 02, CR 1: "Reading its output gives the same sides, T and values, and each grid has a single written form." (proofs/RoundTrip.antt)
use Rattle.std.specs.Prelude.{◌≡◌, true, false, List, ℕ, ◌+◌, ◌*◌, ◌≤◌, ◌<◌, ◌^◌, length, take, drop, ℤ}
use Rattle.prelude.specs.Lists.{any}
use Rattle.rules.specs.declared.Sides.{Sides}
use Rattle.rules.specs.Value.{stray}
use Rattle.rules.specs.Grid.{fit_sides, size}
use Rattle.rules.specs.Answer.{Outcome, outcome, done}
use Rattle.format.specs.Layer.{layer_length}
use Rattle.format.specs.declared.Header.{Header}
use Rattle.format.specs.File.{header_length, read}
use Rattle.format.specs.Written.{layer_values, width_for, layer_form, written_form, written_length, write}

-- a grid that write takes: the last is what the type of T says
pub record Writable (s : Sides) (T : ℕ) (values : List ℤ) : Type 0 where
  pub fits : fit_sides s ≡ true
  pub long : length values ≡ size s
  pub known : any stray values ≡ false
  pub allowed : T < 2 ^ 16

-- what reading it gives
abbrev pub grid : Sides → ℕ → List ℤ → Outcome (List ℤ) Header
grid s T values = outcome (done (record { sides = s; allowed = T })) values

pub record RoundTrip : Type 0 where
  -- the answer is the form's length
  pub form-length : (s : Sides) (T : ℕ) (values : List ℤ) → Writable s T values → length (written_form s T values) ≡ written_length s values
  -- layers go out in rising z: the record of z begins at byte 7 + z times (3 + 2 times a times b), or with 4 for 2
  pub rising :
      (s : Sides) (T : ℕ) (values : List ℤ) → Writable s T values → (z : ℕ) → z < s.c
      → let width = width_for values in
      take (layer_length s width) (drop (header_length + z * layer_length s width) (written_form s T values)) ≡ layer_form width z (layer_values s values z)
  -- into any lent buffer of n values
  pub read_back :
      (s : Sides) (T : ℕ) (values lent : List ℤ) → Writable s T values → length lent ≡ size s
      → read (written_form s T values) lent ≡ grid s T values
  -- its output: of a lent buffer that holds the form, the bytes up to the length that it answers
  pub output-back :
      (s : Sides) (T : ℕ) (values lent : List ℤ) (file : List ℕ) → Writable s T values → length lent ≡ size s → written_length s values ≤ length file
      → read (take (written_length s values) (write s T values file).lent) lent ≡ grid s T values
  -- two grids with one form are one grid
  pub one-grid :
      (s t : Sides) (T U : ℕ) (values others : List ℤ) → Writable s T values → Writable t U others
      → written_form s T values ≡ written_form t U others
      → grid s T values ≡ grid t U others
