-- The scan for a pending voxel finds what the rule asks of buffers of the grid's size.
use mathlib.Core.Path.{◌≡◌, ap}
use Prim.Native.Nat.{ℕ}
use lib.ListN.{length}
use Rattle.cells.specs.Groups.{any}
use Rattle.rules.specs.Grid.{size, range, voxels}
use Rattle.rules.specs.Status.{is_pending, any_pending}
use Rattle.rules.specs.Machine.{State}

pub any-pending-is :
    (g : State)
    → length g.status ≡ size g.rec.sides
    → any (is_pending g.status) (range 0 (length g.status)) ≡ any_pending g.rec.sides g.status
unfolding any_pending voxels
any-pending-is g e = ap (λ (n : ℕ). any (is_pending g.status) (range 0 n)) e
