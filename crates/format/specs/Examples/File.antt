-- Worked files, as theorems by computation (proofs/Examples/File.antt): case D's file, each number, and which of two comes first.
use Rattle.std.specs.Prelude.{◌≡◌, List, [], ◌∷◌, ◌++◌, ℕ, replicate, take, set, ℤ, pos, negsuc}
use Rattle.rules.specs.Value.{missing}
use Rattle.rules.specs.Answer.{refused, done, outcome}
use Rattle.rules.specs.Cases.{sides, values_d}
use Rattle.format.specs.File.{read_up_to, read}
use Rattle.format.specs.BottomUp.{read_in_any_order}
use Rattle.format.specs.Examples.Layer.{layer_record, wide_record}
use Rattle.format.specs.Examples.Patch.{patch}

abbrev pub header : ℕ → ℕ → ℕ → ℕ → List ℕ
header kind a b c = 0x56 ∷ kind ∷ a ∷ b ∷ c ∷ 0x02 ∷ 0x01 ∷ []

-- three records of a grid of 3, 3, 3
abbrev pub three : List ℕ → List ℕ → List ℕ → List ℕ
three x y z = header 0x48 3 3 3 ++ (x ++ (y ++ z))

abbrev pub narrow : ℕ → List ℕ
narrow z = layer_record 0x56 0x4C z

-- narrow layers, by their z
abbrev pub file : ℕ → ℕ → ℕ → List ℕ
file x y z = three (narrow x) (narrow y) (narrow z)

abbrev pub lent : List ℤ
lent = replicate 27 (pos 0)

abbrev pub layer : List ℤ
layer = negsuc 5 ∷ missing ∷ replicate 7 (pos 7)

-- of a wide record
abbrev pub wide_layer : List ℤ
wide_layer = negsuc 32767 ∷ missing ∷ pos 1000000000 ∷ replicate 6 (pos 7)

-- a wide record with eight zeros before that value, and with them behind it
abbrev pub last : List ℕ → ℕ → List ℕ
last value z = 0x56 ∷ 0x57 ∷ z ∷ replicate 32 0 ++ value

abbrev pub first : List ℕ → ℕ → List ℕ
first value z = 0x56 ∷ 0x57 ∷ z ∷ value ++ replicate 32 0

-- 1,000,000,000, -1,000,000,000, and one further each
abbrev pub top : List ℕ
top = 0x00 ∷ 0xCA ∷ 0x9A ∷ 0x3B ∷ []

abbrev pub bottom : List ℕ
bottom = 0x00 ∷ 0x36 ∷ 0x65 ∷ 0xC4 ∷ []

abbrev pub above : List ℕ
above = 0x01 ∷ 0xCA ∷ 0x9A ∷ 0x3B ∷ []

abbrev pub below : List ℕ
below = 0xFF ∷ 0x35 ∷ 0x65 ∷ 0xC4 ∷ []

-- -2,147,483,647, one above the missing mark
abbrev pub beside_missing : List ℕ
beside_missing = 0x01 ∷ 0x00 ∷ 0x00 ∷ 0x80 ∷ []

-- case D: each value hex 06 00 save the two of hex FA FF
abbrev pub plain_d : List ℕ
plain_d = 6 ∷ 0 ∷ 6 ∷ 0 ∷ 6 ∷ 0 ∷ 6 ∷ 0 ∷ 6 ∷ 0 ∷ []

abbrev pub flat_d : List ℕ
flat_d = plain_d ++ (plain_d ++ (plain_d ++ (6 ∷ 0 ∷ [])))

abbrev pub file_d : List ℕ
file_d =
    (0x56 ∷ 0x48 ∷ 4 ∷ 4 ∷ 3 ∷ 0 ∷ 0 ∷ [])
    ++ ((0x56 ∷ 0x4C ∷ 0 ∷ flat_d)
    ++ ((0x56 ∷ 0x4C ∷ 1 ∷ plain_d ++ ((0xFA ∷ 0xFF ∷ 6 ∷ 0 ∷ 6 ∷ 0 ∷ 6 ∷ 0 ∷ 6 ∷ 0 ∷ 0xFA ∷ 0xFF ∷ []) ++ plain_d))
    ++ (0x56 ∷ 0x4C ∷ 2 ∷ flat_d)))

pub record Examples : Type 0 where
  -- sides, T = 258, and each layer's values in its place
  pub grid : read (file 0 1 2) lent ≡ outcome (done (record { sides = sides 3 3 3; allowed = 0x0102 })) (layer ++ layer ++ layer)
  pub case-d : read file_d (replicate 48 (pos 0)) ≡ outcome (done (record { sides = sides 4 4 3; allowed = 0 })) values_d
  -- each number; what was lent stays
  pub short-header : read (take 6 (file 0 1 2)) lent ≡ outcome (refused 21) lent
  pub wrong-header : read (header 0x4C 3 3 3) lent ≡ outcome (refused 22) lent
  pub small-side : read (header 0x48 2 3 3) lent ≡ outcome (refused 1) lent
  pub large-side : read (header 0x48 3 3 65) lent ≡ outcome (refused 1) lent
  pub wrong-buffer : read (file 0 1 2) (take 26 lent) ≡ outcome (refused 2) (take 26 lent)
  pub short-record : read (take 69 (file 0 1 2)) lent ≡ outcome (refused 21) lent
  pub no_record : read (header 0x48 3 3 3) lent ≡ outcome (refused 21) lent
  pub wrong-record : read (header 0x48 3 3 3 ++ layer_record 0x56 0x48 0) lent ≡ outcome (refused 22) lent
  pub no-such-layer : read (file 0 1 3) lent ≡ outcome (refused 23) lent
  -- a repeat is 24, of the layer just before or of one further back; a layer that is not the next is 27, be it the first or a later one
  pub came-before : read (file 0 1 0) lent ≡ outcome (refused 24) lent
  pub came-just-before : read (file 0 0 1) lent ≡ outcome (refused 24) lent
  pub turned : read (file 2 0 1) lent ≡ outcome (refused 27) lent
  pub turned-before : read_in_any_order 64 (file 2 0 1) lent ≡ outcome (done (record { sides = sides 3 3 3; allowed = 0x0102 })) (layer ++ layer ++ layer)
  pub first-is-1 : read (file 1 1 2) lent ≡ outcome (refused 27) lent
  pub skipped : read (file 0 2 1) lent ≡ outcome (refused 27) lent
  -- patches: a later one stands; each number, and nothing is written before the last is looked at
  pub patched : read (file 0 1 2 ++ (patch 26 0 5 ++ (patch 0 0 8 ++ patch 26 0 6))) lent
      ≡ outcome (done (record { sides = sides 3 3 3; allowed = 0x0102 })) (set (set (layer ++ layer ++ layer) 0 (pos 8)) 26 (pos 6))
  pub bytes_after : read (file 0 1 2 ++ (0x56 ∷ [])) lent ≡ outcome (refused 21) lent
  pub wrong-patch : read (file 0 1 2 ++ (patch 0 0 8 ++ layer_record 0x56 0x4C 0)) lent ≡ outcome (refused 22) lent
  pub no-such-voxel : read (file 0 1 2 ++ (patch 0 0 8 ++ patch 27 0 8)) lent ≡ outcome (refused 5) lent
  -- each layer by its own mark: where the next begins goes by it, and so do the values
  pub mixed : read (three (narrow 0) (wide_record 1) (narrow 2)) lent
      ≡ outcome (done (record { sides = sides 3 3 3; allowed = 0x0102 })) (layer ++ wide_layer ++ layer)
  pub wide : read (three (wide_record 0) (wide_record 1) (wide_record 2)) lent
      ≡ outcome (done (record { sides = sides 3 3 3; allowed = 0x0102 })) (wide_layer ++ wide_layer ++ wide_layer)
  pub patched-wide : read (three (wide_record 0) (narrow 1) (wide_record 2) ++ patch 18 0 5) lent
      ≡ outcome (done (record { sides = sides 3 3 3; allowed = 0x0102 })) (set (wide_layer ++ layer ++ wide_layer) 18 (pos 5))
  pub wide-mark-narrow-length : read (three (narrow 0) (narrow 1) (layer_record 0x56 0x57 2)) lent ≡ outcome (refused 21) lent
  -- the range, at both ends; a value out of it is 28 wherever it stands, and no patch mends it
  pub furthest : read (three (first top 0) (last bottom 1) (narrow 2)) lent
      ≡ outcome (done (record { sides = sides 3 3 3; allowed = 0x0102 }))
      ((pos 1000000000 ∷ replicate 8 (pos 0)) ++ (replicate 8 (pos 0) ++ (negsuc 999999999 ∷ [])) ++ layer)
  pub too_far : read (three (first above 0) (narrow 1) (narrow 2)) lent ≡ outcome (refused 28) lent
  pub too-deep : read (three (first below 0) (narrow 1) (narrow 2)) lent ≡ outcome (refused 28) lent
  pub not-missing : read (three (first beside_missing 0) (narrow 1) (narrow 2)) lent ≡ outcome (refused 28) lent
  pub last-value : read (three (narrow 0) (narrow 1) (last above 2)) lent ≡ outcome (refused 28) lent
  pub patched-too-late : read (three (first above 0) (narrow 1) (narrow 2) ++ patch 0 0 8) lent ≡ outcome (refused 28) lent
  -- sides up to the greatest that is taken
  pub over-in-a : read_up_to 24 (header 0x48 25 3 3) lent ≡ outcome (refused 1) lent
  pub over-in-b : read_up_to 24 (header 0x48 3 25 3) lent ≡ outcome (refused 1) lent
  pub over-in-c : read_up_to 24 (header 0x48 3 3 25) lent ≡ outcome (refused 1) lent
  pub not-over : read_up_to 24 (header 0x48 24 24 24) lent ≡ outcome (refused 2) lent
  pub up-to-64 : read (header 0x48 64 64 64) lent ≡ outcome (refused 2) lent
  -- the first of two, in the header
  pub short-before-tag : read (0x00 ∷ []) lent ≡ outcome (refused 21) lent
  pub tag-before-sides : read (header 0x4C 2 3 3) lent ≡ outcome (refused 22) lent
  pub sides-before-buffer : read (header 0x48 2 3 3) [] ≡ outcome (refused 1) []
  pub buffer-before-records : read (header 0x48 3 3 3) [] ≡ outcome (refused 2) []
  -- and among records: each has its own checks before the next is looked at
  pub layer-before-next : read (header 0x48 3 3 3 ++ (layer_record 0x56 0x4C 3 ++ layer_record 0x56 0x48 0)) lent ≡ outcome (refused 23) lent
  pub repeat-before-next : read (header 0x48 3 3 3 ++ (layer_record 0x56 0x4C 0 ++ layer_record 0x56 0x4C 0)) lent ≡ outcome (refused 24) lent
  pub repeat-before-patch : read (file 0 1 1 ++ (0 ∷ [])) lent ≡ outcome (refused 24) lent
  pub skip-before-next : read (header 0x48 3 3 3 ++ (layer_record 0x56 0x4C 1 ++ layer_record 0x56 0x48 0)) lent ≡ outcome (refused 27) lent
  -- of a record that is not the next, the first of two
  pub short-before-skip : read (header 0x48 3 3 3 ++ take 20 (layer_record 0x56 0x4C 1)) lent ≡ outcome (refused 21) lent
  pub mark-before-skip : read (header 0x48 3 3 3 ++ layer_record 0x56 0x48 1) lent ≡ outcome (refused 22) lent
  pub layer-before-skip : read (file 3 0 1) lent ≡ outcome (refused 23) lent
  -- 28 is a record's last: after each other number of its own, before any of the next record's
  pub short-before-range : read (header 0x48 3 3 3 ++ take 38 (first above 0)) lent ≡ outcome (refused 21) lent
  pub layer-before-range : read (three (first above 3) (narrow 1) (narrow 2)) lent ≡ outcome (refused 23) lent
  pub repeat-before-range : read (three (narrow 0) (first above 0) (narrow 2)) lent ≡ outcome (refused 24) lent
  pub skip-before-range : read (three (first above 1) (narrow 0) (narrow 2)) lent ≡ outcome (refused 27) lent
  pub range-before-next : read (header 0x48 3 3 3 ++ first above 0) lent ≡ outcome (refused 28) lent
  pub range-before-patch : read (three (narrow 0) (narrow 1) (first above 2) ++ (0 ∷ [])) lent ≡ outcome (refused 28) lent
