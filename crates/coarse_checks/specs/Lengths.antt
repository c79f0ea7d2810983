-- The lengths of the four lent buffers.
use Rattle.std.specs.Prelude.{◌≡◌, ℕ, length}
use Rattle.coarse.specs.Coarse.{FourBuffers}

pub record Lengths (l : FourBuffers) (dist status block-dist block-status : ℕ) : Type 0 where
  pub dist-len : length l.voxels.dist ≡ dist
  pub status-len : length l.voxels.status ≡ status
  pub block-dist-len : length l.blocks.dist ≡ block-dist
  pub block-status-len : length l.blocks.status ≡ block-status
