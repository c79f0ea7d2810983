-- Waking by bits over the queue.
use mathlib.Core.Path.{◌≡◌, ◌∙◌, subst}
use mathlib.Core.Bool.{false}
use mathlib.Core.List.{List}
use Prim.Native.Nat.{ℕ, ◌-◌, ◌/◌, ◌≤◌}
use native.Mathlib.Omega.{arith}
use lib.Bits.{bit_and, and_le_l}
use lib.IntN.{ℤ}
use lib.ListN.{length}
use Rattle.rules.specs.Machine.{may_go}
use Rattle.rules.specs.Marks.{Marked}
use Rattle.bits.specs.Bits.{has}
use Rattle.bits.specs.Lowest.{Lowest}
use Rattle.waking.specs.Waking.{Woken, Only, AtBits}
use Rattle.waking.proofs.Waking.{Rousing, rousing-next, rousing-done}
use Rattle.queue.specs.Queue.{Queue}
use Rattle.queue_waking.specs.QueueWaking.{WokenQueued}

pub record Calling (mk : Marked) (dist : List ℤ) (x : ℕ) (voxel_at : ℕ → ℕ) (before offsets0 tree0 front0 status offsets tree front : List ℕ)
    (head m : ℕ) : Type 0 where
  pub few : m ≤ x
  pub rousing : Rousing (may_go mk dist) x voxel_at before m status
  pub queue : Queue mk dist status offsets tree front head
  pub statuses : length status ≡ length before
  pub stretched : length offsets ≡ length offsets0
  pub noded : length tree ≡ length tree0
  pub placed : length front ≡ length front0

module _ (mk : Marked) (dist : List ℤ) (x : ℕ) (voxel_at : ℕ → ℕ) (before offsets0 tree0 front0 : List ℕ) where
  pub calling-next :
      (status offsets tree front after offsets1 tree1 front1 : List ℕ) (head head1 m t j : ℕ)
      → Calling mk dist x voxel_at before offsets0 tree0 front0 status offsets tree front head m
      → Lowest m t
      → j ≡ voxel_at (t / 2)
      → WokenQueued (Only (may_go mk dist) j) mk dist status after offsets1 tree1 front1 head1
      → length after ≡ length status
      → length offsets1 ≡ length offsets
      → length tree1 ≡ length tree
      → length front1 ≡ length front
      → Calling mk dist x voxel_at before offsets0 tree0 front0 after offsets1 tree1 front1 head1 (bit_and m (m - 1))
  calling-next status offsets tree front after offsets1 tree1 front1 head head1 m t j k low e r ls lo lt lf =
      record {
        few = omega (arith, k.few, and_le_l m (m - 1));
        rousing = rousing-next (may_go mk dist) x voxel_at before m t status after k.rousing low
            (subst (λ (i : ℕ). Woken (Only (may_go mk dist) i) status after) e r.woken);
        queue = r.queue;
        statuses = ls ∙ k.statuses;
        stretched = lo ∙ k.stretched;
        noded = lt ∙ k.noded;
        placed = lf ∙ k.placed;
      }

  pub calling-done :
      (status offsets tree front : List ℕ) (head m : ℕ)
      → Calling mk dist x voxel_at before offsets0 tree0 front0 status offsets tree front head m
      → ((t : ℕ) → has m t ≡ false)
      → WokenQueued (AtBits (may_go mk dist) x voxel_at) mk dist before status offsets tree front head
  calling-done status offsets tree front head m k none =
      record { woken = rousing-done (may_go mk dist) x voxel_at before m status k.rousing none; queue = k.queue }
