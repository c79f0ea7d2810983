-- Document 02, CR 5: "Narrow values are widened with nothing lost, the old missing mark becoming the new one" (proofs/Widening.antt).
use Rattle.std.specs.Prelude.{◌≡◌, false, List, ℕ, ℤ, negsuc}
use Rattle.rules.specs.Value.{missing, stray}
use Rattle.format.specs.Bytes.{word, signed, narrowed, value_of}

-- -32,768 to 32,767, as a file's two bytes say it
abbrev pub sixteen_bits : List ℕ → ℕ → ℤ
sixteen_bits file at = signed 32768 (word 2 file at)

pub record Widening : Type 0 where
  -- nothing is lost: the 16-bit value is got back
  pub got-back : (file : List ℕ) (at : ℕ) → narrowed 32768 (value_of 2 file at) ≡ sixteen_bits file at
  -- the old missing mark becomes the new one, and every other value stays
  pub mark : (file : List ℕ) (at : ℕ) → sixteen_bits file at ≡ negsuc 32767 → value_of 2 file at ≡ missing
  pub others : (file : List ℕ) (at : ℕ) → (sixteen_bits file at ≡ negsuc 32767 → ⊥) → value_of 2 file at ≡ sixteen_bits file at
  -- none is out of the range
  pub in-range : (file : List ℕ) (at : ℕ) → stray (value_of 2 file at) ≡ false
  -- four bytes stay as they are, -32,768 too
  pub wide : (file : List ℕ) (at : ℕ) → value_of 4 file at ≡ signed 2147483648 (word 4 file at)
