-- `refilling::refill` meets its contract.
use mathlib.Core.Path.{◌≡◌, ap}
use Prim.Native.Nat.{ℕ, ◌/◌}
use native.Mathlib.Omega.{arith}
use Rattle.rules.specs.Marks.{marked}
use Rattle.keys.specs.Key.{voxel_of, width}
use lib.ListN.{get_or}
use Rattle.queue.proofs.Steps.{refill-inside, refill-parting, refill-refreshing, queue-refilled}
use Rattle.refilling.proofs.refill.Goals as goal
use Rattle.refilling.proofs.refill.Goals.{After-voxel-k}

-- the root's stretch
stretch : (c : After-voxel-k) → c.voxel-k.result / width ≡ voxel_of (get_or c.args.tree.now 1 0) / width
stretch c = ap (λ (x : ℕ). x / width) c.voxel-k.ensures.0

pub voxel-k-requires : goal.voxel-k-requires
voxel-k-requires c =
    let a = c.args in (
      c.requires.1,
      refill-inside (marked a.marks.now) a.dist.now a.status.now a.offsets.now a.tree.now a.front.now a.head c.requires.0.queue
          c.requires.0.empty c.requires.1,
    )

pub part-w-requires : goal.part-w-requires
part-w-requires c =
    let a = c.args in
    refill-parting (marked a.marks.now) a.dist.now a.status.now a.offsets.now a.tree.now a.front.now a.head c.requires.0.queue
    c.requires.0.empty c.requires.1 _ _ (stretch (goal.at.part-w-requires c).After-voxel-k) (omega arith)

pub refresh-requires : goal.refresh-requires
refresh-requires c =
    let a = c.args in
    refill-refreshing (marked a.marks.now) a.dist.now a.status.now a.offsets.now a.tree.now a.front.now a.head
    c.requires.0.queue c.requires.0.empty c.requires.1 _ _ (stretch (goal.at.refresh-requires c).After-voxel-k) (omega arith) _ _ c.part-w.ensures

pub returns : goal.returns
returns c =
    let a = c.args in
    queue-refilled (marked a.marks.now) a.dist.now a.status.now a.offsets.now a.tree.now a.front.now a.head
    c.requires.0.queue c.requires.0.empty c.requires.1 _ _ (stretch (goal.at.returns c).After-voxel-k) (omega arith) _ _ c.part-w.ensures _ _ c.refresh.ensures c.part-w.auto.front
