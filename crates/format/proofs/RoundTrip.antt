-- Reading what was written gives the grid back, whichever its width; so two grids with one form are one grid.
use mathlib.Core.Path.{◌≡◌, refl, ap, ap₂, sym, subst, ◌∙◌}
use mathlib.Core.Bool.{true, not}
use mathlib.Core.List.{List, ◌++◌, flat_map}
use Prim.Native.Nat.{ℕ, zero, suc, ◌+◌, ◌-◌, ◌*◌, ◌≤◌, ◌<◌}
use native.Mathlib.Omega.{arith}
use lib.ListN.{length, take, drop, length-drop, take-append-drop, drop_of_length-le}
use lib.Seq.{take_at, drop-drop}
use lib.IntN.{ℤ}
use borrow.Author.Tests.{le-ltb, le-leb, eq-eqb}
use Rattle.prelude.specs.Lists.{range}
use Rattle.prelude.proofs.Bools.{true-and}
use Rattle.rules.specs.declared.Sides.{Sides}
use Rattle.rules.specs.Grid.{size}
use Rattle.rules.specs.Checks.{AllHold}
use Rattle.rules.specs.Answer.{untouched}
use Rattle.rules.proofs.Checks.{append-hold, unless-held}
use Rattle.rules.proofs.Places.{fit}
use Rattle.format.specs.Layer.{area, layer_length}
use Rattle.format.specs.Patch.{patches_checks}
use Rattle.format.specs.File.{header_length, sides_in, allowed_in, fit_up_to, header_checks, layer_start, record_checks, layers_checks, layers_filled}
use Rattle.format.specs.File.{layers_end, records_checks, read_checks, filled, accepted, read_up_to, read}
use Rattle.format.specs.Written.{layer_values, width_for, layer_form, layers_form, written_form, written_length, grid_checks, write}
use Rattle.format.specs.Widths.{layer_due}
use Rattle.format.specs.RoundTrip.{Writable, grid, RoundTrip}
use Rattle.format.proofs.Bytes.{word-drop, word-word_bytes}
use Rattle.format.proofs.Patch.{checks-none, patched-none}
use Rattle.format.proofs.Widths.{even-start, filled-layers}
use Rattle.format.proofs.Forms.{record_form, length-layers_form}
use Rattle.format.proofs.Written.{all-written}
use Rattle.format.proofs.Reading.{Ahead, own-length, starts, width-ahead, ahead-next, values-ahead, record-holds}

module _ {s : Sides} {T : ℕ} {values : List ℤ} (w : Writable s T values) where
  abbrev width : ℕ
  width = width_for values

  abbrev form : List ℕ
  form = written_form s T values

  form-length : length form ≡ written_length s values
  form-length = omega (arith, length-layers_form s width values w.long s.c (omega arith))

  -- ---- reading the records that are left

  -- from layer z on, that is, behind the z before it
  records-ahead : (z left : ℕ) → z + left ≡ s.c → Ahead s width values form z left
  unfolding layers_form layer_start
  records-ahead zero left e =
      let all : s.c ≡ left = omega (arith, e) in
      subst (Ahead s width values form 0) all (record { count = omega arith; holds = refl })
  records-ahead (suc z) left e = ahead-next w (records-ahead z (suc left) (omega (arith, e)))

  ahead : (z : ℕ) → z < s.c → Ahead s width values form z (suc (s.c - 1 - z))
  ahead z h = records-ahead z (suc (s.c - 1 - z)) (omega arith)

  rising :
      (z : ℕ) → z < s.c
      → take (layer_length s width) (drop (header_length + z * layer_length s width) form) ≡ layer_form width z (layer_values s values z)
  rising z h =
      rw (← (even-start s form width s.c (λ k b. width-ahead w (ahead k b)) z (omega arith)), starts w (ahead z h))
      (take_at (record_form s width values z) _ (layer_length s width) (own-length w z h))

  -- no byte is left for a patch
  form-ends : length form ≤ layers_end s form
  unfolding flat_map range
  form-ends = let none = ap length (records-ahead s.c 0 (omega arith)).holds in omega (arith, length-drop (layers_end s form) form)

  layers-hold : (left z : ℕ) → Ahead s width values form z left → AllHold (layers_checks s form left z)
  unfolding layers_checks
  layers-hold zero z r = tt
  layers-hold (suc left) z r =
      append-hold (record_checks s form (layer_start s form z) z) (layers_checks s form left (suc z))
      (record-holds w r) (layers-hold left (suc z) (ahead-next w r))

  all-ahead : Ahead s width values form 0 s.c
  all-ahead = records-ahead 0 s.c (omega arith)

  all-layers-hold : AllHold (layers_checks s form s.c 0)
  all-layers-hold = layers-hold s.c 0 all-ahead

  -- their values, one after the other
  layers-due : (left z : ℕ) → Ahead s width values form z left → flat_map (layer_due s form) (range z left) ≡ drop (z * area s) values
  unfolding flat_map range size
  layers-due zero z r =
      let c : z ≡ s.c = omega arith in
      let n : z * area s ≡ s.c * area s = ap (λ (k : ℕ). k * area s) c in
      sym (drop_of_length-le values {i = z * area s} (omega (arith, w.long)))
  layers-due (suc left) z r =
      let n : suc z * area s ≡ z * area s + area s = omega arith in
      ap₂ ◌++◌ (values-ahead w r) (layers-due left (suc z) (ahead-next w r) ∙ ap (λ (k : ℕ). drop k values) n ∙ sym (drop-drop (area s) (z * area s) values))
      ∙ take-append-drop (area s) (drop (z * area s) values)

  -- ---- reading

  fit-read : fit_up_to 64 s ≡ true
  unfolding fit_up_to
  fit-read =
      let f = fit s w.fits in
      true-and _ _ w.fits (true-and _ _ (le-leb _ _ f.a-high) (true-and _ _ (le-leb _ _ f.b-high) (le-leb _ _ f.c-high)))

  allowed-read : allowed_in form ≡ T
  allowed-read = sym (word-drop 2 5 form 0) ∙ word-word_bytes 2 T (layers_form s width values s.c) w.allowed

  module _ (lent : List ℤ) (long : length lent ≡ size s) where
    header-holds : AllHold (header_checks 64 form (length lent))
    header-holds = (le-ltb (length form) header_length (omega arith), (refl, (ap not fit-read, (ap not (eq-eqb _ _ long), tt))))

    read-holds : AllHold (read_checks 64 form (length lent))
    read-holds =
        append-hold (header_checks 64 form (length lent)) (records_checks s form) header-holds
        (append-hold (layers_checks s form s.c 0) (patches_checks (size s) form (layers_end s form))
        all-layers-hold
        (subst AllHold (sym (checks-none (size s) form (layers_end s form) form-ends)) tt))

    layers-back : layers_filled s form s.c 0 lent ≡ values
    layers-back =
        let n : 0 * area s ≡ 0 = omega arith in
        filled-layers s form s.c 0 lent (omega arith) long all-layers-hold
        ∙ ap₂ ◌++◌ (ap (λ (k : ℕ). take k lent) n) (layers-due s.c 0 all-ahead ∙ ap (λ (k : ℕ). drop k values) n)

    read_back : read form lent ≡ grid s T values
    unfolding read read_up_to filled
    read_back =
        unless-held (untouched lent) (accepted form lent) (read_checks 64 form (length lent)) read-holds
        ∙ ap₂ (grid s) allowed-read (patched-none form (layers_end s form) _ form-ends ∙ layers-back)

  -- ---- the bytes that write leaves, up to what it answers

  grid-holds : AllHold (grid_checks s values)
  grid-holds = (ap not w.fits, (ap not (eq-eqb _ _ w.long), (w.known, tt)))

  output-is : (file : List ℕ) → written_length s values ≤ length file → take (written_length s values) (write s T values file).lent ≡ form
  output-is file room =
      rw (← (all-written s T values file grid-holds room)) (take_at form (drop (written_length s values) file) (written_length s values) form-length)

-- the sides stand in the form: they agree before anything is read into a buffer
one-grid : {s t : Sides} {T U : ℕ} {values others : List ℤ} → Writable s T values → Writable t U others
    → written_form s T values ≡ written_form t U others → grid s T values ≡ grid t U others
one-grid {s} {t} {values = values} w v e =
    let same : s ≡ t = ap sides_in e in
    sym (read_back w values w.long) ∙ ap (λ (file : List ℕ). read file values) e ∙ read_back v values (w.long ∙ ap size same)

pub round_trip : RoundTrip
round_trip =
    record {
      form-length = λ s T values w. form-length w;
      rising = λ s T values w z h. rising w z h;
      read_back = λ s T values lent w long. read_back w lent long;
      output-back = λ s T values lent file w long room. rw (output-is w file room) (read_back w lent long);
      one-grid = λ s t T U values others w v e. one-grid w v e;
    }
