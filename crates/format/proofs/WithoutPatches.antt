-- A file without patches: no byte is left behind the layers, so no check and no value comes from there.
use mathlib.Core.Path.{◌≡◌, ap, ap₂, ◌∙◌}
use mathlib.Core.List.{List, ◌++◌, append-nil}
use Prim.Native.Nat.{ℕ, ◌≤◌}
use lib.ListN.{length}
use lib.IntN.{ℤ}
use Rattle.rules.specs.declared.Sides.{Sides}
use Rattle.rules.specs.Grid.{size}
use Rattle.rules.specs.Checks.{Check, unless}
use Rattle.rules.specs.Answer.{Outcome, outcome, done, untouched}
use Rattle.format.specs.declared.Header.{Header}
use Rattle.format.specs.File.{sides_in, allowed_in, header_checks, layers_checks, layers_end, filled, read_up_to}
use Rattle.format.specs.WithoutPatches.{layers_alone, WithoutPatches}
use Rattle.format.proofs.Patch.{checks-none, patched-none}

module _ (greatest : ℕ) (file : List ℕ) (lent : List ℤ) (h : length file ≤ layers_end (sides_in file) file) where
  abbrev s : Sides
  s = sides_in file

  abbrev header : List Check
  header = header_checks greatest file (length lent)

  abbrev layers : List Check
  layers = layers_checks s file s.c 0

  abbrev values : List ℤ → Outcome (List ℤ) Header
  values v = outcome (done (record { sides = s; allowed = allowed_in file })) v

  layers-alone : read_up_to greatest file lent ≡ unless (header ++ layers) (untouched lent) (layers_alone file lent)
  unfolding read_up_to filled
  layers-alone =
      ap₂ (λ (cs : List Check) (v : List ℤ). unless (header ++ (layers ++ cs)) (untouched lent) (values v))
      (checks-none (size s) file (layers_end s file) h) (patched-none file (layers_end s file) _ h)
      ∙ ap (λ (cs : List Check). unless (header ++ cs) (untouched lent) (layers_alone file lent)) (append-nil layers)

pub without-patches : WithoutPatches
without-patches = record { layers-alone = layers-alone }
