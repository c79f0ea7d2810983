-- The check of all layer records, one after the other, and of the patches behind them: what is left to check decides the number.
use mathlib.Core.Path.{◌≡◌, refl, ap, sym, ◌∙◌}
use mathlib.Core.Bool.{Bool, true, false, cond}
use mathlib.Core.List.{List, ◌++◌, append_assoc}
use Prim.Native.Nat.{ℕ, suc, ◌+◌, ◌-◌, ◌≤◌, ◌<◌}
use native.Mathlib.Omega.{arith}
use borrow.Author.Tests.{lt-ltb, le-ltb, eq-eqb, ne_eqb}
use Rattle.prelude.specs.Lists.{any}
use Rattle.rules.specs.declared.Sides.{Sides}
use Rattle.rules.specs.Value.{stray}
use Rattle.rules.specs.Grid.{fit_sides, size}
use Rattle.rules.specs.Checks.{Check, first_failing, AllHold}
use Rattle.rules.proofs.Checks.{Deciding}
use Rattle.format.specs.Layer.{record_length, z_at, layer_at, values_in}
use Rattle.format.specs.Patch.{patches_checks}
use Rattle.format.specs.File.{header_length, layer_start, order_checks, range_checks, record_checks, layers_checks, layers_end, records_checks}
use Rattle.format.proofs.Records.{record-checked, layers_checks-next}
use Rattle.layers.specs.Readable.{Readable}
use Rattle.layers.proofs.Reading.{readable}

-- ---- a record's own

module _ (s : Sides) (file : List ℕ) (start next : ℕ) where
  -- the number of a record of which z can be read, by its z and its values
  abbrev pub behind-layer : ℕ
  behind-layer = first_failing (order_checks file start next ++ range_checks s file start)

  pub repeat-refused : z_at file start < next → 24 ≡ behind-layer
  unfolding first_failing
  repeat-refused h = rw (lt-ltb (z_at file start) next h)

  pub skip-refused : next < z_at file start → 27 ≡ behind-layer
  unfolding first_failing
  skip-refused h = rw (le-ltb (z_at file start) next (omega arith), ne_eqb (z_at file start) next (λ e. omega arith))

  module _ (due : z_at file start ≡ next) (t : Bool) (e : t ≡ any stray (values_in s file (layer_at s file start))) where
    range-decides : cond t 28 0 ≡ behind-layer
    unfolding first_failing
    range-decides = rw (le-ltb (z_at file start) next (omega arith), eq-eqb (z_at file start) next due, ← e)

    pub stray-refused : t ≡ true → 28 ≡ behind-layer
    stray-refused f = ap (λ (t : Bool). cond t 28 0) (sym f) ∙ range-decides

    pub record-taken : t ≡ false → 0 ≡ behind-layer
    record-taken f = ap (λ (t : Bool). cond t 28 0) (sym f) ∙ range-decides

  pub record-readable : fit_sides s ≡ true → AllHold (record_checks s file start next) → Readable s file start
  record-readable e h = readable s file start e (record-checked s file start next h).layer

-- ---- the records

module _ (s : Sides) (file : List ℕ) where
  abbrev behind : List Check
  behind = patches_checks (size s) file (layers_end s file)

  -- the layers from next on, and the patches, are left to check
  pub record Reached (start next : ℕ) : Type 0 where
    pub within : next ≤ s.c
    pub there : start ≡ layer_start s file next
    pub left : Deciding (records_checks s file) (layers_checks s file (s.c - next) next ++ behind)

  pub reached-start : Reached header_length 0
  unfolding layer_start
  reached-start = let e : s.c - 0 ≡ s.c = omega arith in record { within = omega arith; there = refl; left = rw e }

  module _ (start next : ℕ) (i : Reached start next) where
    module _ (h : next < s.c) where
      abbrev after : List Check
      after = layers_checks s file (s.c - next - 1) (suc next)

      abbrev rest : List Check
      rest = after ++ behind

      -- the record at hand, and what is behind it
      pub reached-record : Deciding (records_checks s file) (record_checks s file start next ++ rest)
      reached-record =
          ap (λ (start : ℕ). first_failing (record_checks s file start next ++ rest)) i.there
          ∙ ap first_failing (sym (append_assoc (record_checks s file (layer_start s file next) next) after behind))
          ∙ ap (λ (cs : List Check). first_failing (cs ++ behind)) (sym (layers_checks-next s file (s.c - next) next (omega arith)))
          ∙ i.left

      pub reached-next : Deciding (records_checks s file) rest → (at z : ℕ) → at ≡ start + record_length s file start → z ≡ suc next → Reached at z
      unfolding layer_start
      reached-next d at z a q =
          let k : s.c - suc next ≡ s.c - next - 1 = omega arith in
          rw (a, q) (record { within = omega arith; there = ap (λ (start : ℕ). start + record_length s file start) i.there; left = rw k d })

    pub reached-patches : s.c ≤ next → Deciding (records_checks s file) (patches_checks (size s) file start)
    unfolding layers_checks
    reached-patches h =
        let all : next ≡ s.c = omega (arith, i.within) in
        let none : 0 ≡ s.c - next = omega arith in
        ap (λ (start : ℕ). first_failing (patches_checks (size s) file start)) (i.there ∙ ap (layer_start s file) all)
        ∙ ap (λ (left : ℕ). first_failing (layers_checks s file left next ++ behind)) none
        ∙ i.left
