-- `waking::wake` meets its contract: the loop wakes the voxels at the bits that it has dropped.
use mathlib.Core.Path.{◌≡◌, refl, sym, ap, ◌∙◌}
use Prim.Native.Nat.{ℕ, ◌+◌, ◌-◌, ◌<◌}
use native.Mathlib.Omega.{arith}
use borrow.Author.Rules.{rules}
use lib.Dec.{lit<}
use lib.ListN.{length}
use lib.Bits.{and_le_l, and_le_r}
use Rattle.rules.specs.Marks.{marked}
use Rattle.rules.specs.Machine.{may_go}
use Rattle.bits.specs.Bits.{has}
use Rattle.waking.specs.Waking.{from_voxel}
use Rattle.waking.proofs.Idle.{has-beyond}
use Rattle.waking.proofs.Waking.{lowest-position, position-below, rousing-start, rousing-next, rousing-done}
use Rattle.waking.proofs.wake.Goals as goal
use Rattle.waking.proofs.wake.Goals.{After-offset}

pub loop-m-init : goal.loop-m-init
loop-m-init c =
    let a = c.args in
    (omega arith, refl, rousing-start (may_go (marked a.marks.now) a.dist.now) a.idle (from_voxel a.a a.l a.at) a.status.now)

pub lowest-p-requires : goal.lowest-p-requires
lowest-p-requires c = c.loop-m-test.true

pub offset-requires : goal.offset-requires
offset-requires c =
    let p = c.requires.0 in
    record {
      row = p.room.row;
      layer = p.room.layer;
      below = lowest-position c.args.idle c.loop-m.m c.lowest-p.result p.few c.loop-m.invariant.0 c.lowest-p.ensures;
    }

-- the voxel at the lowest bit
inside : (c : After-offset) → let a = c.args in a.at + c.offset.result < length a.status.now
inside c =
    let a = c.args in
    omega (
      arith,
      c.offset.ensures,
      position-below a.a a.l a.at _ (length a.status.now) c.requires.0.room
          (lowest-position a.idle c.loop-m.m c.lowest-p.result c.requires.0.few c.loop-m.invariant.0 c.lowest-p.ensures),
    )

pub overflow_add-at : goal.overflow_add-at
overflow_add-at c = let i = inside c in search rules

pub wake_one-requires : goal.wake_one-requires
wake_one-requires c =
    let i = inside c in
    let v = c.loop-m.invariant.1 in
    (omega arith, c.requires.1 ∙ sym v)

pub loop-m-smaller : goal.loop-m-smaller
loop-m-smaller c =
    let m = c.loop-m.m in
    omega (arith, and_le_r m (m - 1), c.loop-m-test.true)

pub loop-m-preserved : goal.loop-m-preserved
loop-m-preserved c =
    let a = c.args in
    let v = c.loop-m.invariant in (
      omega (arith, v.0, and_le_l c.loop-m.m (c.loop-m.m - 1)),
      c.wake_one.ensures.same ∙ v.1,
      rousing-next (may_go (marked a.marks.now) a.dist.now) a.idle (from_voxel a.a a.l a.at) a.status.now c.loop-m.m
          c.lowest-p.result c.loop-m.status _
          v.2 c.lowest-p.ensures
          (rw c.offset.ensures at c.wake_one.ensures),
    )

pub returns : goal.returns
returns c =
    let a = c.args in
    let z : c.loop-m.m ≡ 0 = omega (arith, c.loop-m-test.false) in
    rousing-done (may_go (marked a.marks.now) a.dist.now) a.idle (from_voxel a.a a.l a.at) a.status.now c.loop-m.m _ c.loop-m.invariant.2
    (λ t. ap (λ (m : ℕ). has m t) z ∙ has-beyond 0 0 t (lit< tt) (omega arith))
