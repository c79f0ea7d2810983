-- Worked files of the program, as theorems by computation (proofs/Examples.antt): cases C and D, layers of both widths, and refusals of read and
-- of begin.
use Rattle.std.specs.Prelude.{◌≡◌, List, [], ◌∷◌, ◌++◌, ℕ, ◌<◌, length, replicate, pos}
use Rattle.format.specs.Examples.File.{header, three, file, first, top, bottom, above, file_d}
use Rattle.text.specs.Line.{refused_line, carved_line}
use Rattle.program.specs.Program.{longest_input, program_line}

-- case C: 5, 5, 3, all 4; at z = 1 the eight voxels touching (2, 2) are -4
abbrev pub flat : List ℕ
flat = 4 ∷ 0 ∷ 4 ∷ 0 ∷ 4 ∷ 0 ∷ 4 ∷ 0 ∷ 4 ∷ 0 ∷ []

abbrev pub across : List ℕ
across = 4 ∷ 0 ∷ 0xFC ∷ 0xFF ∷ 0xFC ∷ 0xFF ∷ 0xFC ∷ 0xFF ∷ 4 ∷ 0 ∷ []

abbrev pub beside : List ℕ
beside = 4 ∷ 0 ∷ 0xFC ∷ 0xFF ∷ 4 ∷ 0 ∷ 0xFC ∷ 0xFF ∷ 4 ∷ 0 ∷ []

abbrev pub plane : List ℕ
plane = flat ++ (flat ++ (flat ++ (flat ++ flat)))

abbrev pub file_c : ℕ → List ℕ
file_c T =
    (0x56 ∷ 0x48 ∷ 5 ∷ 5 ∷ 3 ∷ T ∷ 0 ∷ [])
    ++ ((0x56 ∷ 0x4C ∷ 0 ∷ plane)
    ++ ((0x56 ∷ 0x4C ∷ 1 ∷ flat ++ (across ++ (beside ++ (across ++ flat))))
    ++ (0x56 ∷ 0x4C ∷ 2 ∷ plane)))

-- 3, 3, 3: wide layers of zeros but for one value of four bytes in a corner, and for -1,000,000,000 in the middle; then a narrow one
abbrev pub file_wide : List ℕ → List ℕ
file_wide corner = three (first corner 0) (0x56 ∷ 0x57 ∷ 1 ∷ replicate 16 0 ++ (bottom ++ replicate 16 0)) (0x56 ∷ 0x4C ∷ 2 ∷ replicate 18 0)

pub record Examples : Type 0 where
  -- kept 2 removed 2 opened 0 examined 2 euler 1
  pub case-d : program_line file_d ≡ carved_line 2 2 0 2 (pos 1)
  -- T = 0: one examination, no removal. T = 1: the middle is opened, Euler 0
  pub case-c : program_line (file_c 0) ≡ carved_line 9 0 0 1 (pos 1)
  pub case-c-opened : program_line (file_c 1) ≡ carved_line 8 1 1 1 (pos 0)
  -- read's numbers; a side over 24 is refused as 1
  pub no_header : program_line [] ≡ refused_line 21
  pub side-25 : program_line (header 0x48 25 3 3) ≡ refused_line 1
  pub side-24 : program_line (header 0x48 24 3 3) ≡ refused_line 21
  pub layer-repeated : program_line (file 0 1 1) ≡ refused_line 24
  pub layer-skipped : program_line (file 0 2 1) ≡ refused_line 27
  -- begin's: a border voxel is negative
  pub border : program_line (file 0 1 2) ≡ refused_line 3
  -- a patch gives case C its middle: no hole, and nothing to carve
  pub mended : program_line (file_c 0 ++ (0x56 ∷ 0x50 ∷ 37 ∷ 0 ∷ 0 ∷ 0 ∷ 0xFC ∷ 0xFF ∷ [])) ≡ carved_line 9 0 0 0 (pos 1)
  -- 1,000,000,000 is in the range, and one more is 28
  pub wide : program_line (file_wide top) ≡ carved_line 1 0 0 0 (pos 1)
  pub out_of_range : program_line (file_wide above) ≡ refused_line 28
  -- input over 65,536 bytes, whatever it holds
  pub too_long : (input : List ℕ) → longest_input < length input → program_line input ≡ refused_line 25
