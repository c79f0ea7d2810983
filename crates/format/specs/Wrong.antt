-- Readers and writers of a grid file that go by another rule, and that none of them is the rule: a worked file tells each (proofs/Wrong.antt).
use Rattle.std.specs.Prelude.{◌≡◌, Bool, not, ◌&&◌, ◌||◌, cond, ℕ, zero, suc, ◌+◌, ◌-◌, ◌*◌, ◌/◌, ◌%◌, ◌^◌, leb, ltb, eqb, length, set, drop, ℤ, pos, negsuc}
use mathlib.Core.List.{List, [], ◌∷◌, ◌++◌, flat_map}
use Rattle.prelude.specs.Lists.{any, range}
use Rattle.rules.specs.declared.Sides.{Sides}
use Rattle.rules.specs.Value.{missing, stray}
use Rattle.rules.specs.Grid.{fit_sides, size}
use Rattle.rules.specs.Checks.{Check, ◌when◌, first_failing, unless}
use Rattle.rules.specs.Answer.{Reply, refused, done, Outcome, outcome, untouched, Answers}
use Rattle.rules.specs.Cases.{sides}
use Rattle.format.specs.declared.LayerSpan.{LayerSpan}
use Rattle.format.specs.Bytes.{byte_at, word, Width, half, signed, widened, value_of, word_bytes, tagged}
use Rattle.format.specs.Layer.{narrow_kind, wide_kind, area, layer_length, width_at, record_length, z_at, layer_checks, read_layer, stretch, handed_back}
use Rattle.format.specs.Patch.{patch_length, index_at, patch_at, patch_checks, patch_count, patches_checks, patched}
use Rattle.format.specs.File.{header_length, sides_in, allowed_in, fit_up_to, header_checks, layer_start, order_checks, range_checks, record_checks}
use Rattle.format.specs.declared.Header.{Header}
use Rattle.format.specs.File.{layers_filled, layers_end, read_checks, filled, read}
use Rattle.format.specs.Written.{header_form, layer_values, width_for, layer_form, written_form, written_length, size_checks, grid_checks, write_checks, write}
use Rattle.format.specs.Examples.File.{narrow, lent}

-- ---- bytes

-- values by another number of their bytes, another sign of it, or another widening
abbrev pub OtherValue : (ℕ → List ℕ → ℕ → ℕ) → (ℕ → ℕ → ℤ) → (ℕ → ℤ → ℤ) → Type 0
OtherValue number sign wide =
    ((width : ℕ) → Width width → (bytes : List ℕ) (at : ℕ) → value_of width bytes at ≡ wide (half width) (sign (half width) (number width bytes at))) → ⊥

-- a number as other bytes
abbrev pub OtherBytes : (ℕ → ℕ → List ℕ) → Type 0
OtherBytes bytes = ((width : ℕ) → Width width → (n : ℕ) → word_bytes width n ≡ bytes width n) → ⊥

abbrev pub high_byte_first : ℕ → List ℕ → ℕ → ℕ
high_byte_first zero bytes at = 0
high_byte_first (suc width) bytes at = byte_at bytes at * 256 ^ width + high_byte_first width bytes (at + 1)

abbrev pub bytes_from_the_high : ℕ → ℕ → List ℕ
bytes_from_the_high zero n = []
bytes_from_the_high (suc width) n = n / 256 ^ width % 256 ∷ bytes_from_the_high width n

-- the sign turns at h + 1
abbrev pub turns_late : ℕ → ℕ → ℤ
turns_late h n = cond (ltb n (suc h)) (pos n) (negsuc (h + h - 1 - n))

-- -32,768 marks a missing point in four bytes too
abbrev pub widened_twice : ℕ → ℤ → ℤ
widened_twice h (pos v) = pos v
widened_twice h (negsuc v) = cond (eqb (suc v) h || eqb (suc v) 32768) missing (negsuc v)

pub record WrongBytes : Type 0 where
  pub high-byte-first : OtherValue high_byte_first signed widened
  pub sign-turns-late : OtherValue word turns_late widened
  pub mark-not-widened : OtherValue word signed (λ h v. v)
  pub wide-value-missing : OtherValue word signed widened_twice
  pub writes-high-byte-first : OtherBytes bytes_from_the_high

-- ---- a layer

-- a layer read by another length of its record, or another test of its z
unfoldable pub read_layer_by : (Sides → List ℕ → ℕ → ℕ) → (Sides → ℕ → Bool) → Sides → List ℕ → ℕ → Reply LayerSpan
read_layer_by long none s file start =
    let to = start + long s file start in
    unless
    (1 when not (fit_sides s)
    ∷ 21 when ltb (length file) to
    ∷ 22 when not (tagged narrow_kind file start || tagged wide_kind file start)
    ∷ 23 when none s (z_at file start)
    ∷ [])
    refused (done (record { z = z_at file start; width = width_at file start; from = start + 3; to = to }))

abbrev pub OtherLayer : (Sides → List ℕ → ℕ → ℕ) → (Sides → ℕ → Bool) → Type 0
OtherLayer long none = ((s : Sides) (file : List ℕ) (start : ℕ) → read_layer s file start ≡ read_layer_by long none s file start) → ⊥

-- other bytes handed back
abbrev pub OtherPart : (List ℕ → Reply LayerSpan → List ℕ) → Type 0
OtherPart bytes =
    ((s : Sides) (file : List ℕ) (start : ℕ)
    → let r = read_layer s file start in
    handed_back file r ≡ record { bytes = bytes file r; answer = r }) → ⊥

-- 23 where z is c or more
abbrev pub no_layer : Sides → ℕ → Bool
no_layer s z = leb s.c z

abbrev pub whole_file : List ℕ → Reply LayerSpan → List ℕ
whole_file file (refused n) = file
whole_file file (done l) = stretch file l

pub record WrongLayers : Type 0 where
  pub accepts-z-of-c : OtherLayer record_length (λ s z. ltb s.c z)
  pub short-records : OtherLayer (λ s file start. 2 + width_at file start * area s) no_layer
  pub wide-by-the-narrow-length : OtherLayer (λ s file start. layer_length s 2) no_layer
  pub refusal-has-bytes : OtherPart whole_file

-- ---- patches

-- another number for a record
abbrev pub OtherPatchChecks : (ℕ → List ℕ → ℕ → List Check) → Type 0
OtherPatchChecks checks = ((n : ℕ) (file : List ℕ) (start : ℕ) → first_failing (patch_checks n file start) ≡ first_failing (checks n file start)) → ⊥

-- as many as are left, from start on, applied otherwise
abbrev pub OtherPatched : (List ℕ → ℕ → ℕ → List ℤ → List ℤ) → Type 0
OtherPatched applied =
    ((file : List ℕ) (start : ℕ) (values : List ℤ) → patched file start values ≡ applied file (patch_count file start) start values) → ⊥

abbrev pub five_first : ℕ → List ℕ → ℕ → List Check
five_first n file start =
    21 when ltb (length file) (start + patch_length)
    ∷ 5 when leb n (index_at file start)
    ∷ 22 when not (tagged 0x50 file start)
    ∷ []

unfoldable pub four_byte_values : List ℕ → ℕ → ℕ → List ℤ → List ℤ
four_byte_values file zero start values = values
four_byte_values file (suc left) start values =
    four_byte_values file left (start + patch_length) (set values (index_at file start) (value_of 4 file (start + 6)))

unfoldable pub earlier_stands : List ℕ → ℕ → ℕ → List ℤ → List ℤ
earlier_stands file zero start values = values
earlier_stands file (suc left) start values = set (earlier_stands file left (start + patch_length) values) (index_at file start) (patch_at file start)

pub record WrongPatches : Type 0 where
  pub five-before-22 : OtherPatchChecks five_first
  pub wide-patches : OtherPatched four_byte_values
  pub earlier-stands : OtherPatched earlier_stands

-- ---- read

-- a reader by other checks, with what it leaves of a lent buffer where it refuses, and what it hands out where it does not
unfoldable pub read_by : (List ℕ → ℕ → List Check) → (List ℕ → List ℤ → List ℤ) → (List ℕ → List ℤ → List ℤ) → List ℕ → List ℤ → Outcome (List ℤ) Header
read_by checks kept handed file lent =
    unless (checks file (length lent)) (untouched (kept file lent))
    (outcome (done (record { sides = sides_in file; allowed = allowed_in file })) (handed file lent))

abbrev pub OtherReader : (List ℕ → ℕ → List Check) → (List ℕ → List ℤ → List ℤ) → (List ℕ → List ℤ → List ℤ) → Type 0
OtherReader checks kept handed = ((file : List ℕ) (lent : List ℤ) → read file lent ≡ read_by checks kept handed file lent) → ⊥

-- the rule's own parts
abbrev pub unchanged : List ℕ → List ℤ → List ℤ
unchanged file lent = lent

abbrev pub filled_in : List ℕ → List ℤ → List ℤ
filled_in file lent = filled (sides_in file) file lent

-- the checks of a record that begins at start, where layer next is due
abbrev pub Looks : Type 0
Looks = Sides → List ℕ → ℕ → ℕ → List Check

abbrev pub nothing : Looks
nothing s file start next = []

-- where the record of layer z begins
abbrev pub Places : Type 0
Places = Sides → List ℕ → ℕ → ℕ

-- of each record some checks come before those of the records that follow, and some after
unfoldable pub layers_by : Places → Looks → Looks → Sides → List ℕ → ℕ → ℕ → List Check
layers_by place before after s file zero next = []
layers_by place before after s file (suc left) next =
    let start = place s file next in
    before s file start next ++ (layers_by place before after s file left (suc next) ++ after s file start next)

-- then those of the patches, from where they begin
abbrev pub checks_by : Places → Looks → Looks → (Sides → List ℕ → ℕ) → List ℕ → ℕ → List Check
checks_by place before after end file lent =
    let s = sides_in file in
    header_checks 64 file lent ++ (layers_by place before after s file s.c 0 ++ patches_checks (size s) file (end s file))

-- records looked at otherwise
abbrev pub OtherLooks : Looks → Looks → Type 0
OtherLooks before after = OtherReader (checks_by layer_start before after layers_end) unchanged filled_in

-- other checks of the order of layers
abbrev pub OtherOrder : (ℕ → ℕ → List Check) → Type 0
OtherOrder order = OtherLooks (λ s file start next. layer_checks s file start ++ (order (z_at file start) next ++ range_checks s file start)) nothing

-- records looked for elsewhere, whatever is then handed out
abbrev pub OtherPlaces : Places → (Sides → List ℕ → ℕ) → Type 0
OtherPlaces place end = (handed : List ℕ → List ℤ → List ℤ) → OtherReader (checks_by place record_checks nothing end) unchanged handed

-- other sides taken, up to a greatest
abbrev pub OtherSides : (ℕ → Sides → Bool) → Type 0
OtherSides fits = ((greatest : ℕ) (s : Sides) → fit_up_to greatest s ≡ fits greatest s) → ⊥

abbrev pub narrow_start : Places
narrow_start s file z = header_length + z * layer_length s 2

pub record WrongReaders : Type 0 where
  -- 24 and 27
  pub forgets-24 : OtherOrder (λ z next. 27 when not (eqb z next) ∷ [])
  pub has-27-before-24 : OtherOrder (λ z next. 27 when not (eqb z next) ∷ 24 when ltb z next ∷ [])
  pub has-24-for-a-skipped-layer : OtherOrder (λ z next. 24 when not (eqb z next) ∷ [])
  pub has-27-for-the-next : OtherOrder (λ z next. 24 when ltb z next ∷ 27 when eqb z next ∷ [])
  pub takes-any-first-layer : OtherOrder (λ z next. 24 when ltb z next ∷ 27 when (ltb 0 next && not (eqb z next)) ∷ [])
  -- 28
  pub forgets-28 : OtherLooks (λ s file start next. layer_checks s file start ++ order_checks file start next) nothing
  pub has-28-before-24 :
      OtherLooks (λ s file start next. layer_checks s file start ++ (range_checks s file start ++ order_checks file start next)) nothing
  pub looks-at-28-behind-the-next :
      OtherLooks (λ s file start next. layer_checks s file start ++ order_checks file start next) (λ s file start next. range_checks s file start)
  -- each record before the next
  pub looks-at-the-next-first : OtherLooks nothing record_checks
  -- where records begin
  pub steps-by-the-narrow-length : OtherPlaces narrow_start (λ s file. narrow_start s file s.c)
  pub patches-at-the-narrow-end : OtherPlaces layer_start (λ s file. narrow_start s file s.c)
  -- the greatest side in x and y alone
  pub forgets-a-side : OtherSides (λ greatest s. fit_sides s && (leb s.a greatest && leb s.b greatest))
  -- what is written
  pub patches-before-the-layers :
      OtherReader (read_checks 64) unchanged
      (λ file lent. let s = sides_in file in layers_filled s file s.c 0 (patched file (layers_end s file) lent))
  pub writes-and-then-refuses : OtherReader (read_checks 64) filled_in filled_in

-- ---- write

-- a writer by other checks, or with other bytes in a lent buffer
unfoldable pub write_by : (Sides → List ℤ → ℕ → List Check) → (Sides → ℕ → List ℤ → List ℕ → List ℕ) → Sides → ℕ → List ℤ → List ℕ → Outcome (List ℕ) ℕ
write_by checks laid s T values lent =
    unless (checks s values (length lent)) (untouched lent) (outcome (done (written_length s values)) (laid s T values lent))

abbrev pub OtherWriter : (Sides → List ℤ → ℕ → List Check) → (Sides → ℕ → List ℤ → List ℕ → List ℕ) → Type 0
OtherWriter checks laid =
    ((s : Sides) (T : ℕ) (values : List ℤ) (lent : List ℕ) → write s T values lent ≡ write_by checks laid s T values lent) → ⊥

-- the rule's own bytes
abbrev pub form_first : Sides → ℕ → List ℤ → List ℕ → List ℕ
form_first s T values lent = written_form s T values ++ drop (written_length s values) lent

-- a form whose record number z is another, before the bytes that stay
abbrev pub form_by : (ℕ → Sides → List ℤ → ℕ → List ℕ) → Sides → ℕ → List ℤ → List ℕ → List ℕ
form_by layer s T values lent =
    (header_form s T ++ flat_map (layer (width_for values) s values) (range 0 s.c)) ++ drop (written_length s values) lent

abbrev pub right_layer : ℕ → Sides → List ℤ → ℕ → List ℕ
right_layer width s values z = layer_form width z (layer_values s values z)

-- the layer as far from the last as z is from the first
abbrev pub opposite : Sides → ℕ → ℕ
opposite s z = s.c - 1 - z

-- another width of a grid's layers
abbrev pub OtherWidth : (List ℤ → ℕ) → Type 0
OtherWidth width = ((values : List ℤ) → width_for values ≡ width values) → ⊥

abbrev pub room_before_size : Sides → List ℤ → ℕ → List Check
room_before_size s values lent =
    1 when not (fit_sides s)
    ∷ 26 when ltb lent (written_length s values)
    ∷ 2 when not (eqb (length values) (size s))
    ∷ 28 when any stray values
    ∷ []

abbrev pub room_before_range : Sides → List ℤ → ℕ → List Check
room_before_range s values lent = size_checks s values ++ (26 when ltb lent (written_length s values) ∷ 28 when any stray values ∷ [])

pub record WrongWriters : Type 0 where
  pub has-26-a-byte-late : OtherWriter (λ s values lent. grid_checks s values ++ (26 when ltb (lent + 1) (written_length s values) ∷ [])) form_first
  pub has-26-before-2 : OtherWriter room_before_size form_first
  pub has-28-after-26 : OtherWriter room_before_range form_first
  -- records in falling z; layer z with the values of another
  pub layers-in-falling-z : OtherWriter write_checks (form_by (λ width s values z. right_layer width s values (opposite s z)))
  pub values-in-falling-z : OtherWriter write_checks (form_by (λ width s values z. layer_form width z (layer_values s values (opposite s z))))
  pub writes-a-byte-past-the-length :
      OtherWriter write_checks (λ s T values lent. written_form s T values ++ (0 ∷ drop 1 (drop (written_length s values) lent)))
  pub writes-a-wide-grid-narrow : OtherWidth (λ values. 2)

-- ---- no call on a file always refuses or gives a constant: of each one argument is left open

pub record FileCallsAnswer : Type 0 where
  pub reads-a-layer : Answers (λ (start : ℕ). read_layer (sides 3 3 3) (narrow 0) start)
  pub reads : Answers (λ (bytes : List ℕ). (read bytes lent).answer)
  pub writes : Answers (λ (bytes : List ℕ). (write (sides 3 3 3) 0 lent bytes).answer)

-- ---- by its own parts each is the rule, so that what tells a wrong one is the part that is wrong

pub record OwnParts : Type 0 where
  pub layer : (s : Sides) (file : List ℕ) (start : ℕ) → read_layer s file start ≡ read_layer_by record_length no_layer s file start
  pub reader :
      (file : List ℕ) (lent : List ℤ) → read file lent ≡ read_by (checks_by layer_start record_checks nothing layers_end) unchanged filled_in file lent
  pub writer : (s : Sides) (T : ℕ) (values : List ℤ) (lent : List ℕ) → write s T values lent ≡ write_by write_checks (form_by right_layer) s T values lent
