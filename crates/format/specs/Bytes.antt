-- Document 01, "The grid file", with document 02's CR 5: a number's bytes, low byte first; two's complement; the missing mark; a record's tag.
use Rattle.std.specs.Prelude.{◌≡◌, ◌⊎◌, Bool, false, cond, ◌&&◌, List, [], ◌∷◌, map, ℕ, zero, suc, ◌+◌, ◌-◌, ◌*◌, ◌/◌, ◌%◌, ltb, eqb, get_or, ℤ, pos, negsuc}
use Rattle.prelude.specs.Lists.{range}
use Rattle.rules.specs.Value.{missing, is_missing, beyond}

abbrev pub byte_at : List ℕ → ℕ → ℕ
byte_at file i = get_or file i 0

-- so many bytes as a number
abbrev pub word : ℕ → List ℕ → ℕ → ℕ
word zero bytes at = 0
word (suc width) bytes at = byte_at bytes at + 256 * word width bytes (at + 1)

-- a value has two bytes, or four
abbrev pub Width : ℕ → Type 0
Width width = (width ≡ 2) ⊎ (width ≡ 4)

-- half of the numbers of so many bytes: there the negative ones begin
abbrev pub half : ℕ → ℕ
half zero = 0
half (suc zero) = 128
half (suc (suc width)) = 256 * half (suc width)

-- two's complement: of twice h numbers, those from h on stand for the negative ones, the last for -1
unfoldable pub signed : ℕ → ℕ → ℤ
signed h n = cond (ltb n h) (pos n) (negsuc (h + h - 1 - n))

-- document 02, CR 5: of twice h numbers -h marks a missing point. A value is widened with nothing lost, that mark becoming the one of 32 bits
unfoldable pub widened : ℕ → ℤ → ℤ
widened h (pos v) = pos v
widened h (negsuc v) = cond (eqb (suc v) h) missing (negsuc v)

unfoldable pub value_of : ℕ → List ℕ → ℕ → ℤ
value_of width bytes at = widened (half width) (signed (half width) (word width bytes at))

-- the first values of so many bytes each
unfoldable pub values_of : ℕ → ℕ → List ℕ → List ℤ
values_of width count bytes = map (λ k. value_of width bytes (width * k)) (range 0 count)

-- ---- the same bytes, from a number

abbrev pub word_bytes : ℕ → ℕ → List ℕ
word_bytes zero n = []
word_bytes (suc width) n = n % 256 ∷ word_bytes width (n / 256)

-- of twice h numbers the one that stands for a value
unfoldable pub unsigned : ℕ → ℤ → ℕ
unsigned h (pos n) = n
unsigned h (negsuc n) = h + h - 1 - n

-- a value that twice h numbers can say: -(h - 1) to h - 1, or missing
abbrev pub Holds : ℕ → ℤ → Type 0
Holds h v = beyond (h - 1) v ≡ false

-- the mark of 32 bits becoming -h again
unfoldable pub narrowed : ℕ → ℤ → ℤ
narrowed h v = cond (is_missing v) (negsuc (h - 1)) v

unfoldable pub value_bytes : ℕ → ℤ → List ℕ
value_bytes width v = word_bytes width (unsigned (half width) (narrowed (half width) v))

-- ---- marks

-- document 01's mark of a record: hex 56, then the kind
abbrev pub tagged : ℕ → List ℕ → ℕ → Bool
tagged kind file start = eqb (byte_at file start) 0x56 && eqb (byte_at file (start + 1)) kind
