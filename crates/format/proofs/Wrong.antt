-- What tells each wrong reader and writer, by computation: the rule's number or byte on the left, the other's on the right.
use mathlib.Core.Path.{◌≡◌, refl, ap, sym, ◌∙◌}
use mathlib.Core.Logic.{inl, inr}
use mathlib.Core.Bool.{true≢false}
use mathlib.Core.List.{List, [], ◌∷◌, ◌++◌, flat_map, append-nil}
use Prim.Native.Nat.{ℕ, zero, suc}
use native.Mathlib.Omega.{arith}
use lib.ListN.{length, get_or, replicate, take}
use lib.IntN.{ℤ, pos, nat_abs}
use Rattle.prelude.specs.Lists.{any, range}
use Rattle.rules.specs.declared.Sides.{Sides}
use Rattle.rules.specs.Value.{is_missing, beyond}
use Rattle.rules.specs.Grid.{fit_sides, size}
use Rattle.rules.specs.Checks.{Check, first_failing, unless}
use Rattle.rules.specs.Answer.{Reply, refused, done, Outcome, untouched}
use Rattle.rules.specs.Cases.{sides}
use Rattle.rules.proofs.Answers.{answers}
use Rattle.format.specs.Bytes.{signed, widened, value_of, unsigned, narrowed, value_bytes}
use Rattle.format.specs.Layer.{width_at, read_layer, Part}
use Rattle.format.specs.Patch.{applied_of, patches_checks}
use Rattle.format.specs.declared.Header.{Header}
use Rattle.format.specs.File.{sides_in, header_checks, layer_start, record_checks, layers_checks, layers_end, accepted, read_up_to, read}
use Rattle.format.specs.Written.{width_for, values_form, layers_form, write}
use Rattle.format.specs.Examples.Layer.{layer_record, wide_record}
use Rattle.format.specs.Examples.Patch.{patch}
use Rattle.format.specs.Examples.File.{header, three, narrow, file, lent, first, above}
use Rattle.format.specs.Examples.Written.{values, ending, lent as bytes_lent}
use Rattle.format.specs.Wrong.{WrongBytes, read_layer_by, WrongLayers, four_byte_values, earlier_stands, WrongPatches}
use Rattle.format.specs.Wrong.{read_by, unchanged, filled_in, nothing, layers_by, checks_by, WrongReaders, write_by, WrongWriters}
use Rattle.format.specs.Wrong.{FileCallsAnswer, OwnParts}
use Rattle.format.proofs.Examples.File.{reading-rules}

-- the number of a refusal, or 0
abbrev number : {A : Type 0} → Reply A → ℕ
number (refused n) = n
number (done a) = 0

pub wrong-bytes : WrongBytes
unfolding signed widened value_of
wrong-bytes =
    record {
      high-byte-first = λ h. let e : ◌≡◌ {A = ℕ} 0x0102 0x0201 = ap nat_abs (h 2 (inl refl) (0x02 ∷ 0x01 ∷ []) 0) in omega arith;
      sign-turns-late = λ h. let e : ◌≡◌ {A = ℕ} 2147483648 32768 = ap nat_abs (h 2 (inl refl) (0x00 ∷ 0x80 ∷ []) 0) in omega arith;
      mark-not-widened = λ h. let e : ◌≡◌ {A = ℕ} 2147483648 32768 = ap nat_abs (h 2 (inl refl) (0x00 ∷ 0x80 ∷ []) 0) in omega arith;
      wide-value-missing = λ h.
          let e : ◌≡◌ {A = ℕ} 32768 2147483648 = ap nat_abs (h 4 (inr refl) (0x00 ∷ 0x80 ∷ 0xFF ∷ 0xFF ∷ []) 0) in omega arith;
      writes-high-byte-first = λ h. let e : ◌≡◌ {A = ℕ} 0x02 0x01 = ap (λ (bs : List ℕ). get_or bs 0 0) (h 2 (inl refl) 0x0102) in omega arith;
    }

pub wrong-layers : WrongLayers
unfolding fit_sides unless width_at read_layer read_layer_by
wrong-layers =
    record {
      accepts-z-of-c = λ h. let e : ◌≡◌ {A = ℕ} 23 0 = ap number (h (sides 3 3 3) (layer_record 0x56 0x4C 3) 0) in omega arith;
      short-records = λ h. let e : ◌≡◌ {A = ℕ} 21 0 = ap number (h (sides 3 3 3) (take 20 (layer_record 0x56 0x4C 0)) 0) in omega arith;
      wide-by-the-narrow-length = λ h. let e : ◌≡◌ {A = ℕ} 21 0 = ap number (h (sides 3 3 3) (layer_record 0x56 0x57 0) 0) in omega arith;
      refusal-has-bytes = λ h.
          let e : ◌≡◌ {A = ℕ} 0 21 = ap (λ (p : Part). length p.bytes) (h (sides 3 3 3) (layer_record 0x56 0x4C 3) 0) in omega arith;
    }

-- the size of the value at an index
abbrev size_at : ℕ → List ℤ → ℕ
size_at i vs = nat_abs (get_or vs i (pos 0))

pub wrong-patches : WrongPatches
unfolding first_failing signed widened value_of applied_of four_byte_values earlier_stands
wrong-patches =
    record {
      five-before-22 = λ h. let e : ◌≡◌ {A = ℕ} 22 5 = h 27 (0x56 ∷ 0x51 ∷ replicate 6 255) 0 in omega arith;
      wide-patches = λ h.
          let e : ◌≡◌ {A = ℕ} 2147483648 32768 = ap (size_at 1) (h (0x56 ∷ 0x50 ∷ 1 ∷ 0 ∷ 0 ∷ 0 ∷ 0x00 ∷ 0x80 ∷ []) 0 (replicate 2 (pos 0))) in omega arith;
      earlier-stands = λ h.
          let e : ◌≡◌ {A = ℕ} 8 7 = ap (size_at 2) (h (1 ∷ patch 2 0 7 ++ (patch 0 0 9 ++ patch 2 0 8)) 1 (replicate 4 (pos 0))) in omega arith;
    }

-- ---- a reader's number, and its values

abbrev told : Outcome (List ℤ) Header → ℕ
told o = number o.answer

abbrev left : ℕ → Outcome (List ℤ) Header → ℕ
left i o = size_at i o.lent

pub wrong-readers : WrongReaders
unfolding any range fit_sides size unless reading-rules read_by layers_by
wrong-readers =
    record {
      forgets-24 = λ h. let e : ◌≡◌ {A = ℕ} 24 27 = ap told (h (file 0 1 0) lent) in omega arith;
      has-27-before-24 = λ h. let e : ◌≡◌ {A = ℕ} 24 27 = ap told (h (file 0 1 0) lent) in omega arith;
      has-24-for-a-skipped-layer = λ h. let e : ◌≡◌ {A = ℕ} 27 24 = ap told (h (file 0 2 1) lent) in omega arith;
      has-27-for-the-next = λ h. let e : ◌≡◌ {A = ℕ} 0 27 = ap told (h (file 0 1 2) lent) in omega arith;
      takes-any-first-layer = λ h. let e : ◌≡◌ {A = ℕ} 27 0 = ap told (h (file 1 1 2) lent) in omega arith;
      forgets-28 = λ h. let e : ◌≡◌ {A = ℕ} 28 0 = ap told (h (three (first above 0) (narrow 1) (narrow 2)) lent) in omega arith;
      has-28-before-24 = λ h. let e : ◌≡◌ {A = ℕ} 24 28 = ap told (h (three (narrow 0) (first above 0) (narrow 2)) lent) in omega arith;
      looks-at-28-behind-the-next = λ h. let e : ◌≡◌ {A = ℕ} 28 21 = ap told (h (header 0x48 3 3 3 ++ first above 0) lent) in omega arith;
      looks-at-the-next-first = λ h.
          let e : ◌≡◌ {A = ℕ} 23 21 = ap told (h (header 0x48 3 3 3 ++ (layer_record 0x56 0x4C 3 ++ layer_record 0x56 0x48 0)) lent) in omega arith;
      steps-by-the-narrow-length = λ handed h. let e : ◌≡◌ {A = ℕ} 0 22 = ap told (h (three (narrow 0) (wide_record 1) (narrow 2)) lent) in omega arith;
      patches-at-the-narrow-end = λ handed h.
          let e : ◌≡◌ {A = ℕ} 0 22 = ap told (h (three (wide_record 0) (narrow 1) (wide_record 2) ++ patch 18 0 5) lent) in omega arith;
      forgets-a-side = λ h. true≢false (sym (h 24 (sides 3 3 25)));
      patches-before-the-layers = λ h.
          let e : ◌≡◌ {A = ℕ} 8 6 = ap (left 0) (h (file 0 1 2 ++ (patch 26 0 5 ++ (patch 0 0 8 ++ patch 26 0 6))) lent) in omega arith;
      writes-and-then-refuses = λ h.
          let e : ◌≡◌ {A = ℕ} 0 7 = ap (left 2) (h (file 0 1 2 ++ (patch 0 0 8 ++ layer_record 0x56 0x4C 0)) lent) in omega arith;
    }

-- ---- a writer's number, and its bytes

abbrev answered : Outcome (List ℕ) ℕ → ℕ
answered o = number o.answer

abbrev laid : ℕ → Outcome (List ℕ) ℕ → ℕ
laid i o = get_or o.lent i 0

pub wrong-writers : WrongWriters
unfolding flat_map any range is_missing beyond fit_sides size unless unsigned narrowed value_bytes width_for values_form layers_form write write_by
wrong-writers =
    record {
      has-26-a-byte-late = λ h. let e : ◌≡◌ {A = ℕ} 26 0 = ap answered (h (sides 3 3 3) 0 values (bytes_lent 69)) in omega arith;
      has-26-before-2 = λ h. let e : ◌≡◌ {A = ℕ} 2 26 = ap answered (h (sides 3 3 3) 0 [] []) in omega arith;
      has-28-after-26 = λ h. let e : ◌≡◌ {A = ℕ} 28 26 = ap answered (h (sides 3 3 3) 0 (ending (pos 1000000001)) []) in omega arith;
      layers-in-falling-z = λ h. let e : ◌≡◌ {A = ℕ} 0 2 = ap (laid 9) (h (sides 3 3 3) 0x0102 values (bytes_lent 70)) in omega arith;
      values-in-falling-z = λ h. let e : ◌≡◌ {A = ℕ} 0x80 0 = ap (laid 11) (h (sides 3 3 3) 0 (ending (pos 5)) (bytes_lent 70)) in omega arith;
      writes-a-byte-past-the-length = λ h. let e : ◌≡◌ {A = ℕ} 0xA5 0 = ap (laid 70) (h (sides 3 3 3) 0x0102 values (bytes_lent 72)) in omega arith;
      writes-a-wide-grid-narrow = λ h. let e : ◌≡◌ {A = ℕ} 4 2 = h (ending (pos 32768)) in omega arith;
    }

-- ---- by its own parts

module _ (s : Sides) (file : List ℕ) where
  own-layers : (left next : ℕ) → layers_checks s file left next ≡ layers_by layer_start record_checks nothing s file left next
  unfolding layers_checks layers_by
  own-layers zero next = refl
  own-layers (suc left) next =
      ap (λ (cs : List Check). record_checks s file (layer_start s file next) next ++ cs) (own-layers left (suc next) ∙ sym (append-nil _))

own-reader : (file : List ℕ) (lent : List ℤ) → read file lent ≡ read_by (checks_by layer_start record_checks nothing layers_end) unchanged filled_in file lent
unfolding read read_up_to read_by
own-reader file lent =
    let s = sides_in file in
    let header = header_checks 64 file (length lent) in
    let patches = patches_checks (size s) file (layers_end s file) in
    ap (λ (cs : List Check). unless (header ++ (cs ++ patches)) (untouched lent) (accepted file lent)) (own-layers s file s.c 0)

pub file-calls-answer : FileCallsAnswer
unfolding any range fit_sides size unless width_at read_layer reading-rules unsigned narrowed value_bytes width_for values_form layers_form write
file-calls-answer =
    record {
      reads-a-layer = answers _ 0 1 21 refl refl;
      reads = answers _ (file 0 1 2) [] 21 refl refl;
      writes = answers _ (bytes_lent 70) [] 26 refl refl;
    }

pub own-parts : OwnParts
unfolding read_layer read_layer_by write write_by layers_form
own-parts = record { layer = λ s file start. refl; reader = own-reader; writer = λ s T values lent. refl }
