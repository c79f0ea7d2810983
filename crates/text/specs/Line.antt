-- Document 01, "The grid file": the line that the program carve prints, as text. Bytes are numbers below 256.
use Rattle.std.specs.Prelude.{cond, List, [], ◌∷◌, ◌++◌, ℕ, zero, suc, ◌+◌, ◌/◌, ◌%◌, ltb, ℤ, pos, negsuc}

pub data Line : Type 0 where
  refused_line : ℕ → Line
  -- kept voxels, removals, openings, examinations, Euler number
  carved_line : ℕ → ℕ → ℕ → ℕ → ℤ → Line

-- ---- numbers

-- a number of so many decimal digits at most, before a text
unfoldable pub decimal : ℕ → ℕ → List ℕ → List ℕ
decimal zero n text = text
decimal (suc digits) n text = cond (ltb n 10) ((n + 0x30) ∷ text) (decimal digits (n / 10) ((n % 10 + 0x30) ∷ text))

-- no number of 64 bits has more than 20 digits
abbrev pub number : ℕ → List ℕ → List ℕ
number n text = decimal 20 n text

abbrev pub signed_number : ℤ → List ℕ → List ℕ
signed_number (pos n) text = number n text
signed_number (negsuc n) text = 0x2D ∷ number (suc n) text

-- ---- words, with the space after each and the one before all but the first

-- "refused "
abbrev pub refused_word : List ℕ
refused_word = 0x72 ∷ 0x65 ∷ 0x66 ∷ 0x75 ∷ 0x73 ∷ 0x65 ∷ 0x64 ∷ 0x20 ∷ []

-- "kept "
abbrev pub kept_word : List ℕ
kept_word = 0x6B ∷ 0x65 ∷ 0x70 ∷ 0x74 ∷ 0x20 ∷ []

-- " removed "
abbrev pub removed_word : List ℕ
removed_word = 0x20 ∷ 0x72 ∷ 0x65 ∷ 0x6D ∷ 0x6F ∷ 0x76 ∷ 0x65 ∷ 0x64 ∷ 0x20 ∷ []

-- " opened "
abbrev pub opened_word : List ℕ
opened_word = 0x20 ∷ 0x6F ∷ 0x70 ∷ 0x65 ∷ 0x6E ∷ 0x65 ∷ 0x64 ∷ 0x20 ∷ []

-- " examined "
abbrev pub examined_word : List ℕ
examined_word = 0x20 ∷ 0x65 ∷ 0x78 ∷ 0x61 ∷ 0x6D ∷ 0x69 ∷ 0x6E ∷ 0x65 ∷ 0x64 ∷ 0x20 ∷ []

-- " euler "
abbrev pub euler_word : List ℕ
euler_word = 0x20 ∷ 0x65 ∷ 0x75 ∷ 0x6C ∷ 0x65 ∷ 0x72 ∷ 0x20 ∷ []

-- ---- the line: `refused 4`, or `kept 2 removed 2 opened 0 examined 2 euler 1`, and a line feed

unfoldable pub line_text : Line → List ℕ
line_text (refused_line n) = refused_word ++ number n (0x0A ∷ [])
line_text (carved_line kept removed opened examined euler) =
    kept_word ++ number kept (
    removed_word ++ number removed (
    opened_word ++ number opened (
    examined_word ++ number examined (
    euler_word ++ signed_number euler (0x0A ∷ [])))))
