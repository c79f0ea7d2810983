-- `pending_bits` meets its contract: a stretch is whole, or ends with the last voxel.
use native.Mathlib.Omega.{arith}
use Rattle.masks.proofs.Loading.{shown_rest}
use Rattle.masks.proofs.pending_bits.Goals as goal

pub returns-else-status-at-ge-WIDTH : goal.returns-else-status-at-ge-WIDTH
returns-else-status-at-ge-WIDTH c = λ t h.
    shown_rest c.args.status.now c.args.at _ c.requires (omega (arith, c.if-status-at-ge-WIDTH.false, c.requires)) c.rest.ensures t
