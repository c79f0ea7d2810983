-- Document 02, CR 2, "Single corrected points": a patch record, its checks, and the values with patches applied.
use Rattle.std.specs.Prelude.{not, List, [], ◌∷◌, ◌++◌, ℕ, zero, suc, ◌+◌, ◌-◌, ◌/◌, leb, ltb, length, set, ℤ}
use Rattle.rules.specs.Checks.{Check, ◌when◌}
use Rattle.format.specs.Bytes.{word, value_of, tagged}

-- ---- hex 56 50, index in four bytes, value in two

abbrev pub patch_length : ℕ
patch_length = 8

abbrev pub index_at : List ℕ → ℕ → ℕ
index_at file start = word 4 file (start + 2)

abbrev pub patch_at : List ℕ → ℕ → ℤ
patch_at file start = value_of 2 file (start + 6)

-- ---- the checks of a record that begins at start, in a grid of n voxels

abbrev pub patch_checks : ℕ → List ℕ → ℕ → List Check
patch_checks n file start =
    21 when ltb (length file) (start + patch_length)
    ∷ 22 when not (tagged 0x50 file start)
    ∷ 5 when leb n (index_at file start)
    ∷ []

-- ---- every byte from start on belongs to a patch: as many as begin there, the last perhaps cut off

abbrev pub patch_count : List ℕ → ℕ → ℕ
patch_count file start = (length file - start + 7) / patch_length

-- as many as are left: each has its own checks before the next is looked at
unfoldable pub checks_of : ℕ → List ℕ → ℕ → ℕ → List Check
checks_of n file zero start = []
checks_of n file (suc left) start = patch_checks n file start ++ checks_of n file left (start + patch_length)

-- applied in file order: each supersedes what stood there
unfoldable pub applied_of : List ℕ → ℕ → ℕ → List ℤ → List ℤ
applied_of file zero start values = values
applied_of file (suc left) start values = applied_of file left (start + patch_length) (set values (index_at file start) (patch_at file start))

abbrev pub patches_checks : ℕ → List ℕ → ℕ → List Check
patches_checks n file start = checks_of n file (patch_count file start) start

abbrev pub patched : List ℕ → ℕ → List ℤ → List ℤ
patched file start values = applied_of file (patch_count file start) start values
