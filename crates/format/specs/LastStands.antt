-- Document 02, CR 2: "A patch supersedes the layer's value, and of two patches to a voxel the later one stands." (proofs/LastStands.antt)
use Rattle.std.specs.Prelude.{◌≡◌, List, ℕ, ◌+◌, ◌*◌, ◌<◌, length, get_or, ℤ, pos}
use Rattle.format.specs.Patch.{patch_length, index_at, patch_at, patch_count, patched}

-- the k-th patch from start on begins there
abbrev pub place : ℕ → ℕ → ℕ
place start k = start + k * patch_length

pub record LastStands : Type 0 where
  -- the value at an index is that of the last patch to it
  pub last :
      (file : List ℕ) (start : ℕ) (values : List ℤ) (k : ℕ)
      → k < patch_count file start
      → let i = index_at file (place start k) in
      i < length values
      → ((j : ℕ) → k < j → j < patch_count file start → index_at file (place start j) ≡ i → ⊥)
      → get_or (patched file start values) i (pos 0) ≡ patch_at file (place start k)
  -- where there is none, it is what it was
  pub none :
      (file : List ℕ) (start : ℕ) (values : List ℤ) (i : ℕ)
      → ((j : ℕ) → j < patch_count file start → index_at file (place start j) ≡ i → ⊥)
      → get_or (patched file start values) i (pos 0) ≡ get_or values i (pos 0)
