-- Document 02, CR 5: where layers of one width begin, what a file that read takes gives, and that no value of it is out of range (proofs/Widths.antt).
use Rattle.std.specs.Prelude.{◌≡◌, false, ℕ, ◌+◌, ◌*◌, ◌≤◌, ◌<◌, ℤ}
use mathlib.Core.List.{List, flat_map}
use Rattle.prelude.specs.Lists.{any, range}
use Rattle.rules.specs.declared.Sides.{Sides}
use Rattle.rules.specs.Value.{stray}
use Rattle.rules.specs.Checks.{AllHold}
use Rattle.format.specs.Layer.{layer_length, width_at, layer_at, values_in}
use Rattle.format.specs.Patch.{patched}
use Rattle.format.specs.declared.Header.{Header}
use Rattle.format.specs.File.{header_length, layer_start, range_checks, layers_end, read_up_to}
use Rattle.format.specs.BottomUp.{Takes}

-- the first so many layers have one width
abbrev pub Even : Sides → List ℕ → ℕ → ℕ → Type 0
Even s file width count = (z : ℕ) → z < count → width_at file (layer_start s file z) ≡ width

-- the values of the record that layer z is due in
abbrev pub layer_due : Sides → List ℕ → ℕ → List ℤ
layer_due s file z = values_in s file (layer_at s file (layer_start s file z))

pub record Widths : Type 0 where
  -- each begins behind the header and those before: of narrow layers, layer z at byte 7 + z (3 + 2 a b)
  pub even :
      (s : Sides) (file : List ℕ) (width count : ℕ) → Even s file width count
      → (z : ℕ) → z ≤ count → layer_start s file z ≡ header_length + z * layer_length s width
  -- a narrow layer is never refused with 28
  pub narrow : (s : Sides) (file : List ℕ) (start : ℕ) → width_at file start ≡ 2 → AllHold (range_checks s file start)
  -- a file that is taken gives its layers' values one after the other, whatever their widths, with the patches applied; nothing that was lent is left
  pub values :
      (greatest : ℕ) (file : List ℕ) (lent : List ℤ) (h : Header) → Takes greatest file lent h
      → let s = h.sides in
      (read_up_to greatest file lent).lent ≡ patched file (layers_end s file) (flat_map (layer_due s file) (range 0 s.c))
  -- no value of its layers is out of the range, patched or not
  pub layers-in-range :
      (greatest : ℕ) (file : List ℕ) (lent : List ℤ) (h : Header) → Takes greatest file lent h
      → (z : ℕ) → z < h.sides.c → any stray (layer_due h.sides file z) ≡ false
  -- and none that read hands out: with these values neither begin nor write answers 28
  pub in-range :
      (greatest : ℕ) (file : List ℕ) (lent : List ℤ) (h : Header) → Takes greatest file lent h
      → any stray (read_up_to greatest file lent).lent ≡ false
