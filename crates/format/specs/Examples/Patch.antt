-- Worked patches, as theorems by computation (proofs/Examples/Patch.antt): values with patches applied, each number, and which of two comes first.
use Rattle.std.specs.Prelude.{◌≡◌, List, [], ◌∷◌, ◌++◌, ℕ, replicate, take, pos, negsuc}
use Rattle.rules.specs.Value.{missing}
use Rattle.rules.specs.Checks.{first_failing}
use Rattle.format.specs.Patch.{patches_checks, patched}

-- a patch to an index below 65,536: its two low bytes, and the value's low byte
abbrev pub patch : ℕ → ℕ → ℕ → List ℕ
patch low high value = 0x56 ∷ 0x50 ∷ low ∷ high ∷ 0 ∷ 0 ∷ value ∷ 0 ∷ []

pub record Examples : Type 0 where
  -- from byte 1 on: voxel 2 gets 7, then voxel 0 gets 9, then voxel 2 gets 8, which stands
  pub later-stands : patched (1 ∷ patch 2 0 7 ++ (patch 0 0 9 ++ patch 2 0 8)) 1 (replicate 4 (pos 0)) ≡ pos 9 ∷ pos 0 ∷ pos 8 ∷ pos 0 ∷ []
  -- a patch is narrow, whatever the layer was: its missing mark is widened, and so is -1
  pub missing-mark : patched (0x56 ∷ 0x50 ∷ 1 ∷ 0 ∷ 0 ∷ 0 ∷ 0x00 ∷ 0x80 ∷ []) 0 (replicate 2 (pos 0)) ≡ pos 0 ∷ missing ∷ []
  pub over-wide : patched (0x56 ∷ 0x50 ∷ 1 ∷ 0 ∷ 0 ∷ 0 ∷ 0xFF ∷ 0xFF ∷ []) 0 (replicate 2 (pos 100000)) ≡ pos 100000 ∷ negsuc 0 ∷ []
  pub without : patched (1 ∷ []) 1 (pos 3 ∷ []) ≡ pos 3 ∷ []
  pub taken : first_failing (patches_checks 27 (patch 26 0 7 ++ patch 0 0 9) 0) ≡ 0
  -- each number
  pub one_byte : first_failing (patches_checks 27 (0x56 ∷ []) 0) ≡ 21
  pub seven-bytes : first_failing (patches_checks 27 (take 15 (patch 0 0 7 ++ patch 1 0 7)) 0) ≡ 21
  pub wrong-mark : first_failing (patches_checks 27 (0x56 ∷ 0x4C ∷ replicate 6 0) 0) ≡ 22
  pub no-such-voxel : first_failing (patches_checks 27 (patch 27 0 7) 0) ≡ 5
  -- the index has four bytes
  pub high_byte : first_failing (patches_checks 27 (patch 0 1 7) 0) ≡ 5
  pub third-byte : first_failing (patches_checks 27 (0x56 ∷ 0x50 ∷ 0 ∷ 0 ∷ 1 ∷ 0 ∷ 7 ∷ 0 ∷ []) 0) ≡ 5
  -- the first of two
  pub short-before-mark : first_failing (patches_checks 27 (0 ∷ 0 ∷ 0 ∷ []) 0) ≡ 21
  pub mark-before-index : first_failing (patches_checks 27 (0x56 ∷ 0x51 ∷ replicate 6 255) 0) ≡ 22
  pub own-before-next : first_failing (patches_checks 27 (patch 27 0 7 ++ (0 ∷ [])) 0) ≡ 5
