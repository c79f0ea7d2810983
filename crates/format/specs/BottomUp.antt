-- Document 02, CR 4: where each layer stands in a file that read takes; and what read answered while layers came in any order (proofs/BottomUp.antt).
use Rattle.std.specs.Prelude.{◌≡◌, ◌⊎◌, true, List, [], ◌∷◌, ◌++◌, ℕ, zero, suc, ◌+◌, ◌<◌, length, ℤ}
use Rattle.rules.specs.declared.Sides.{Sides}
use Rattle.rules.specs.Grid.{size}
use Rattle.rules.specs.Checks.{Check, ◌when◌, unless}
use Rattle.rules.specs.Answer.{Outcome, outcome, refused, done, untouched}
use Rattle.rules.specs.Begin.{is_in}
use Rattle.format.specs.Bytes.{tagged}
use Rattle.format.specs.Layer.{kind_of, width_at, z_at, layer_checks, read_layer}
use Rattle.format.specs.Patch.{patches_checks}
use Rattle.format.specs.declared.Header.{Header}
use Rattle.format.specs.File.{sides_in, header_checks, layer_start, range_checks, layers_end, accepted, read_up_to}

-- ---- read before CR 4: layers in any order, each once. What it writes is what read writes now

-- seen are the z that came before
abbrev pub any_order_checks : List ℕ → ℕ → List ℕ → List Check
any_order_checks file start seen = 24 when is_in seen (z_at file start) ∷ []

-- as many records as are left, after so many that came
unfoldable pub layers_in_any_order : Sides → List ℕ → ℕ → ℕ → List ℕ → List Check
layers_in_any_order s file zero came seen = []
layers_in_any_order s file (suc left) came seen =
    let start = layer_start s file came in
    (layer_checks s file start ++ (any_order_checks file start seen ++ range_checks s file start))
    ++ layers_in_any_order s file left (suc came) (z_at file start ∷ seen)

abbrev pub any_order_read_checks : ℕ → List ℕ → ℕ → List Check
any_order_read_checks greatest file lent =
    let s = sides_in file in
    header_checks greatest file lent ++ (layers_in_any_order s file s.c 0 [] ++ patches_checks (size s) file (layers_end s file))

unfoldable pub read_in_any_order : ℕ → List ℕ → List ℤ → Outcome (List ℤ) Header
read_in_any_order greatest file lent = unless (any_order_read_checks greatest file (length lent)) (untouched lent) (accepted file lent)

-- ---- what CR 4 brings

abbrev pub Takes : ℕ → List ℕ → List ℤ → Header → Type 0
Takes greatest file lent h = (read_up_to greatest file lent).answer ≡ done h

abbrev pub InOrder : Sides → List ℕ → Type 0
InOrder s file = (z : ℕ) → z < s.c → z_at file (layer_start s file z) ≡ z

pub record BottomUp : Type 0 where
  -- layer z stands where the z layers before it end: its mark, then its z
  pub stands :
      (greatest : ℕ) (file : List ℕ) (lent : List ℤ) (h : Header) → Takes greatest file lent h
      → (z : ℕ) → z < h.sides.c
      → let start = layer_start h.sides file z in
      (tagged (kind_of (width_at file start)) file start ≡ true) × (z_at file start ≡ z)
  -- so reading a layer there gives layer z
  pub read-there :
      (greatest : ℕ) (file : List ℕ) (lent : List ℤ) (h : Header) → Takes greatest file lent h
      → (z : ℕ) → z < h.sides.c
      → let start = layer_start h.sides file z in
      read_layer h.sides file start
      ≡ done (record { z = z; width = width_at file start; from = start + 3; to = layer_start h.sides file (suc z) })
  -- no answer changed but to 27
  pub same-or-27 :
      (greatest : ℕ) (file : List ℕ) (lent : List ℤ)
      → (read_up_to greatest file lent ≡ read_in_any_order greatest file lent) ⊎ (read_up_to greatest file lent ≡ outcome (refused 27) lent)
  -- so a file that is read now was read before, with the same answer and values
  pub read-before :
      (greatest : ℕ) (file : List ℕ) (lent : List ℤ) (h : Header) → Takes greatest file lent h
      → read_up_to greatest file lent ≡ read_in_any_order greatest file lent
  -- and of those that were read before, each that has its layers in order still is
  pub still_read :
      (greatest : ℕ) (file : List ℕ) (lent : List ℤ) (h : Header) → (read_in_any_order greatest file lent).answer ≡ done h → InOrder h.sides file
      → read_up_to greatest file lent ≡ read_in_any_order greatest file lent
