-- Worked values of document 01's file, as theorems by computation (proofs/Examples/Bytes.antt).
use Rattle.std.specs.Prelude.{◌≡◌, true, false, [], ◌∷◌, pos, negsuc}
use Rattle.format.specs.Bytes.{word, value_of, values_of, word_bytes, value_bytes, tagged}

pub record Examples : Type 0 where
  -- low byte first, for any width
  pub two_bytes : word 2 (0x02 ∷ 0x01 ∷ []) 0 ≡ 0x0102
  pub four_bytes : word 4 (0x04 ∷ 0x03 ∷ 0x02 ∷ 0x01 ∷ []) 0 ≡ 0x01020304
  -- case D's two values
  pub six : value_of 2 (0x06 ∷ 0x00 ∷ []) 0 ≡ pos 6
  pub minus-six : value_of 2 (0xFA ∷ 0xFF ∷ []) 0 ≡ negsuc 5
  pub minus-six-wide : value_of 4 (0xFA ∷ 0xFF ∷ 0xFF ∷ 0xFF ∷ []) 0 ≡ negsuc 5
  -- where the sign turns: 32,767, and the mark of a missing range point, -32,768, which becomes the one of 32 bits
  pub greatest : value_of 2 (0xFF ∷ 0x7F ∷ []) 0 ≡ pos 32767
  pub missing : value_of 2 (0x00 ∷ 0x80 ∷ []) 0 ≡ negsuc 2147483647
  pub missing-wide : value_of 4 (0x00 ∷ 0x00 ∷ 0x00 ∷ 0x80 ∷ []) 0 ≡ negsuc 2147483647
  -- of four bytes -32,768 is a value like another
  pub measured-wide : value_of 4 (0x00 ∷ 0x80 ∷ 0xFF ∷ 0xFF ∷ []) 0 ≡ negsuc 32767
  pub greatest-wide : value_of 4 (0x00 ∷ 0xCA ∷ 0x9A ∷ 0x3B ∷ []) 0 ≡ pos 1000000000
  pub in_order : values_of 2 3 (0x06 ∷ 0x00 ∷ 0xFA ∷ 0xFF ∷ 0x07 ∷ 0x00 ∷ []) ≡ pos 6 ∷ negsuc 5 ∷ pos 7 ∷ []
  -- and back
  pub two-written : word_bytes 2 0x0102 ≡ 0x02 ∷ 0x01 ∷ []
  pub four-written : word_bytes 4 0x01020304 ≡ 0x04 ∷ 0x03 ∷ 0x02 ∷ 0x01 ∷ []
  pub minus-six-written : value_bytes 2 (negsuc 5) ≡ 0xFA ∷ 0xFF ∷ []
  pub minus-six-written-wide : value_bytes 4 (negsuc 5) ≡ 0xFA ∷ 0xFF ∷ 0xFF ∷ 0xFF ∷ []
  pub missing-written : value_bytes 2 (negsuc 2147483647) ≡ 0x00 ∷ 0x80 ∷ []
  pub missing-written-wide : value_bytes 4 (negsuc 2147483647) ≡ 0x00 ∷ 0x00 ∷ 0x00 ∷ 0x80 ∷ []
  pub measured-written-wide : value_bytes 4 (negsuc 32767) ≡ 0x00 ∷ 0x80 ∷ 0xFF ∷ 0xFF ∷ []
  -- hex 56, then the kind
  pub right-tag : tagged 0x4C (0x00 ∷ 0x56 ∷ 0x4C ∷ []) 1 ≡ true
  pub wrong-kind : tagged 0x4C (0x56 ∷ 0x48 ∷ []) 0 ≡ false
  pub wrong_first : tagged 0x4C (0x57 ∷ 0x4C ∷ []) 0 ≡ false
