-- Document 02's CR 8: a voxel with a face neighbour that is not kept has one of the six faces, and so has every voxel that passes
-- (proofs/EveryBlock.antt).
use Rattle.std.specs.Prelude.{◌≡◌, Bool, true, not, ℕ, ◌<◌}
use Rattle.cells.specs.Groups.{any}
use Rattle.cells.specs.Cells.{face_positions, test, passes}

abbrev pub HasFace : Type 0
HasFace = (kept : ℕ → Bool) → any (λ c. not (kept c)) face_positions ≡ true → (test kept).face < 6

abbrev pub PassingHasFace : Type 0
PassingHasFace = (kept : ℕ → Bool) → passes (test kept) ≡ true → (test kept).face < 6
