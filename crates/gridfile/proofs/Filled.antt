-- The values of all layers, record by record, into a buffer of one value a voxel, and the patches behind them.
use mathlib.Core.Path.{◌≡◌, refl, ap, ap₂, sym, subst, subst₂, ◌∙◌}
use mathlib.Core.List.{List}
use Prim.Native.Nat.{ℕ, zero, suc, ◌+◌, ◌-◌, ◌≤◌, ◌<◌}
use mathlib.Core.Bool.{true}
use native.Mathlib.Omega.{arith}
use lib.ListN.{length}
use lib.IntN.{ℤ}
use Rattle.rules.specs.declared.Sides.{Sides}
use Rattle.rules.specs.Grid.{fit_sides, size}
use Rattle.rules.specs.Checks.{Check, AllHold}
use Rattle.rules.proofs.Checks.{hold-append}
use Rattle.format.specs.Layer.{record_length, layer_at, with_layer}
use Rattle.format.specs.Patch.{patches_checks, patched}
use Rattle.format.specs.File.{header_length, layer_start, record_checks, layers_checks, layers_filled, layers_end, Accepted, filled}
use Rattle.format.proofs.Sizes.{length-with_layer}
use Rattle.format.proofs.Records.{layers_checks-next}
use Rattle.layers.specs.Readable.{Readable}
use Rattle.gridfile.proofs.Checking.{record-readable}

module _ (s : Sides) (file : List ℕ) (lent : List ℤ) where
  -- what is left to fill, of records that were checked, gives what the whole file gives
  pub record Spreading (values : List ℤ) (start left : ℕ) : Type 0 where
    pub fits : fit_sides s ≡ true
    pub next : ℕ
    pub all : next + left ≡ s.c
    pub there : start ≡ layer_start s file next
    pub checked : AllHold (layers_checks s file left next)
    pub long : length values ≡ size s
    pub same : layers_filled s file left next values ≡ layers_filled s file s.c 0 lent

  pub spreading-start : Accepted s file (length lent) → Spreading lent header_length s.c
  unfolding layer_start
  spreading-start a =
      record { fits = a.fits; next = 0; all = omega arith; there = refl; checked = a.layers; long = a.long; same = refl }

  layers_filled-next :
      (values : List ℤ) (left next : ℕ)
      → 0 < left
      → layers_filled s file left next values
      ≡ layers_filled s file (left - 1) (suc next) (with_layer s file values (layer_at s file (layer_start s file next)))
  unfolding layers_filled
  layers_filled-next values zero next h = let z : ⊥ = omega arith in absurd z
  layers_filled-next values (suc left) next h = let e : suc left - 1 ≡ left = omega arith in rw e

  module _ (values : List ℤ) (start left : ℕ) (i : Spreading values start left) (h : 0 < left) where
    abbrev own : List Check
    own = record_checks s file (layer_start s file i.next) i.next

    abbrev rest : List Check
    rest = layers_checks s file (left - 1) (suc i.next)

    both : (AllHold own) × (AllHold rest)
    both = hold-append own rest (subst AllHold (layers_checks-next s file left i.next h) i.checked)

    pub spreading-readable : Readable s file start
    spreading-readable = rw i.there (record-readable s file (layer_start s file i.next) i.next i.fits both.0)

    pub spreading-next :
        (new : List ℤ) (at : ℕ)
        → new ≡ with_layer s file values (layer_at s file start)
        → at ≡ start + record_length s file start
        → Spreading new at (left - 1)
    unfolding layer_start
    spreading-next new at en ea =
        rw (en, ea) (record {
          fits = i.fits;
          next = suc i.next;
          all = omega (arith, i.all);
          there = ap (λ (start : ℕ). start + record_length s file start) i.there;
          checked = both.1;
          long = length-with_layer s file values (layer_at s file start) spreading-readable.z-below i.long;
          same =
              ap (λ (start : ℕ). layers_filled s file (left - 1) (suc i.next) (with_layer s file values (layer_at s file start))) i.there
              ∙ sym (layers_filled-next values left i.next h)
              ∙ i.same;
        })

  module _ (values : List ℤ) (start left : ℕ) (i : Spreading values start left) (h : left ≤ 0) where
    spreading-end : start ≡ layers_end s file
    spreading-end = let e : i.next ≡ s.c = omega (arith, i.all) in i.there ∙ ap (layer_start s file) e

    spreading-all : values ≡ layers_filled s file s.c 0 lent
    unfolding layers_filled
    spreading-all = let e : 0 ≡ left = omega arith in ap (λ (left : ℕ). layers_filled s file left i.next values) e ∙ i.same

    -- the patches were checked, where they begin
    pub spreading-patches : Accepted s file (length lent) → AllHold (patches_checks (length values) file start)
    spreading-patches a = subst₂ (λ (n start : ℕ). AllHold (patches_checks n file start)) (sym i.long) (sym spreading-end) a.patches

    pub spreading-done : (new : List ℤ) → new ≡ patched file start values → new ≡ filled s file lent
    unfolding filled
    spreading-done new e = e ∙ ap₂ (patched file) spreading-end spreading-all
