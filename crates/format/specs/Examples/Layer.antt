-- Worked records, as theorems by computation (proofs/Examples/Layer.antt): layers that are read, each number, and which of two comes first.
use Rattle.std.specs.Prelude.{◌≡◌, List, [], ◌∷◌, ◌++◌, ℕ, replicate, take, ℤ, pos, negsuc}
use Rattle.rules.specs.Value.{missing}
use Rattle.rules.specs.Answer.{refused, done}
use Rattle.rules.specs.Cases.{sides}
use Rattle.format.specs.Layer.{read_layer, layer_at, stretch, handed_back, with_layer}

-- a record of a grid of 3, 3, 3: the values are -6, missing, then seven of 7
abbrev pub narrow_bytes : List ℕ
narrow_bytes = 0xFA ∷ 0xFF ∷ 0x00 ∷ 0x80 ∷ 7 ∷ 0 ∷ 7 ∷ 0 ∷ 7 ∷ 0 ∷ 7 ∷ 0 ∷ 7 ∷ 0 ∷ 7 ∷ 0 ∷ 7 ∷ 0 ∷ []

abbrev pub layer_record : ℕ → ℕ → ℕ → List ℕ
layer_record first kind z = first ∷ kind ∷ z ∷ narrow_bytes

-- of four bytes a value: -32,768, which is measured, missing, 1,000,000,000, then six of 7
abbrev pub wide_bytes : List ℕ
wide_bytes =
    0x00 ∷ 0x80 ∷ 0xFF ∷ 0xFF ∷ 0x00 ∷ 0x00 ∷ 0x00 ∷ 0x80 ∷ 0x00 ∷ 0xCA ∷ 0x9A ∷ 0x3B
    ∷ 7 ∷ 0 ∷ 0 ∷ 0 ∷ 7 ∷ 0 ∷ 0 ∷ 0 ∷ 7 ∷ 0 ∷ 0 ∷ 0 ∷ 7 ∷ 0 ∷ 0 ∷ 0 ∷ 7 ∷ 0 ∷ 0 ∷ 0 ∷ 7 ∷ 0 ∷ 0 ∷ 0 ∷ []

abbrev pub wide_record : ℕ → List ℕ
wide_record z = 0x56 ∷ 0x57 ∷ z ∷ wide_bytes

-- the values of a grid of zeros with a file's first record in its middle layer
abbrev pub middle : List ℕ → List ℤ
middle file = with_layer (sides 3 3 3) file (replicate 27 (pos 0)) (layer_at (sides 3 3 3) file 0)

pub record Examples : Type 0 where
  -- one byte stands before the record, and one after it
  pub found : read_layer (sides 3 3 3) (1 ∷ layer_record 0x56 0x4C 2 ++ (9 ∷ [])) 1 ≡ done (record { z = 2; width = 2; from = 4; to = 22 })
  pub bytes : stretch (1 ∷ layer_record 0x56 0x4C 2 ++ (9 ∷ [])) (record { z = 2; width = 2; from = 4; to = 22 }) ≡ narrow_bytes
  pub values : middle (layer_record 0x56 0x4C 1) ≡ replicate 9 (pos 0) ++ (negsuc 5 ∷ missing ∷ replicate 7 (pos 7)) ++ replicate 9 (pos 0)
  pub found-wide : read_layer (sides 3 3 3) (1 ∷ wide_record 2 ++ (9 ∷ [])) 1 ≡ done (record { z = 2; width = 4; from = 4; to = 40 })
  pub bytes-wide : stretch (1 ∷ wide_record 2 ++ (9 ∷ [])) (record { z = 2; width = 4; from = 4; to = 40 }) ≡ wide_bytes
  pub values-wide :
      middle (wide_record 1) ≡ replicate 9 (pos 0) ++ (negsuc 32767 ∷ missing ∷ pos 1000000000 ∷ replicate 6 (pos 7)) ++ replicate 9 (pos 0)
  -- each is measured by its own length: none has a byte to spare
  pub just-long : read_layer (sides 3 3 3) (layer_record 0x56 0x4C 0) 0 ≡ done (record { z = 0; width = 2; from = 3; to = 21 })
  pub just-long-wide : read_layer (sides 3 3 3) (wide_record 0) 0 ≡ done (record { z = 0; width = 4; from = 3; to = 39 })
  -- a refusal hands back its number alone; then each number
  pub refused-alone : handed_back (layer_record 0x56 0x4C 3) (read_layer (sides 3 3 3) (layer_record 0x56 0x4C 3) 0) ≡ record { bytes = []; answer = refused 23 }
  pub unfit-sides : read_layer (sides 2 3 3) (layer_record 0x56 0x4C 0) 0 ≡ refused 1
  pub short : read_layer (sides 3 3 3) (take 20 (layer_record 0x56 0x4C 0)) 0 ≡ refused 21
  pub short-wide : read_layer (sides 3 3 3) (take 38 (wide_record 0)) 0 ≡ refused 21
  pub past_the_end : read_layer (sides 3 3 3) (layer_record 0x56 0x4C 0) 1000 ≡ refused 21
  pub wrong_first : read_layer (sides 3 3 3) (layer_record 0x57 0x4C 0) 0 ≡ refused 22
  pub wrong-kind : read_layer (sides 3 3 3) (layer_record 0x56 0x48 0) 0 ≡ refused 22
  pub no-such-layer : read_layer (sides 3 3 3) (layer_record 0x56 0x4C 3) 0 ≡ refused 23
  pub no-such-layer-wide : read_layer (sides 3 3 3) (wide_record 3) 0 ≡ refused 23
  -- the wide mark is both bytes: with them the narrow length is too short, with one of them it is what a record is measured by
  pub wide-of-narrow-length : read_layer (sides 3 3 3) (layer_record 0x56 0x57 0) 0 ≡ refused 21
  pub wide-but-for-the-first : read_layer (sides 3 3 3) (layer_record 0x57 0x57 0) 0 ≡ refused 22
  pub one-byte-left : read_layer (sides 3 3 3) (0x56 ∷ []) 0 ≡ refused 21
  pub two-bytes-left : read_layer (sides 3 3 3) (0x56 ∷ 0x57 ∷ []) 0 ≡ refused 21
  -- the first of two
  pub sides-before-short : read_layer (sides 3 3 65) [] 0 ≡ refused 1
  pub short-before-tag : read_layer (sides 3 3 3) (take 20 (layer_record 0x57 0x4C 0)) 0 ≡ refused 21
  pub short-before-layer-wide : read_layer (sides 3 3 3) (layer_record 0x56 0x57 3) 0 ≡ refused 21
  pub tag-before-layer : read_layer (sides 3 3 3) (layer_record 0x56 0x48 3) 0 ≡ refused 22
