-- `waking::remove` meets its contract: the voxel gone, and the idle ones around it woken.
use mathlib.Core.Path.{◌≡◌, refl, sym, ap, ◌∙◌, subst, subst₂}
use Prim.Native.Nat.{ℕ, ◌*◌, ◌^◌, ◌<◌}
use native.Mathlib.Omega.{arith}
use lib.ListN.{length, set, length-set}
use Rattle.rules.specs.Marks.{marked}
use Rattle.rules.specs.Machine.{may_go}
use Rattle.rules.specs.Grid.{size}
use Rattle.bits.specs.Bits.{bits}
use Rattle.touched_cells.specs.Block.{code_in}
use Rattle.neighbourhood.specs.Neighbourhood.{Room}
use Rattle.neighbourhood.proofs.Interior.{layer-small, room}
use Rattle.waking.specs.Waking.{idle_bit}
use Rattle.waking.proofs.Removal.{removed-from}
use Rattle.waking.proofs.Idle.{idle-few}
use Rattle.waking.proofs.remove.Goals as goal

pub idle_bits-idle-requires : goal.idle_bits-idle-requires
idle_bits-idle-requires c = c.gather.ensures.rows

pub overflow_mul-s : goal.overflow_mul-s
overflow_mul-s c = record { fits = let b = layer-small _ _ c.requires.voxel in omega arith }

pub wake-requires : goal.wake-requires
wake-requires c =
    let a = c.args in
    let p = c.requires in
    let len : length (set a.status.now a.i 0) ≡ size a.s = length-set a.status.now a.i 0 ∙ p.statuses.lent in (
      record {
        room = subst₂ (λ (m n : ℕ). Room a.s.a (a.s.a * a.s.b) m n) (sym c.first_around-at.ensures) (sym len) (room a.s a.i p.voxel);
        few = subst (λ (n : ℕ). n < 2 ^ 54) (sym c.idle_bits-idle.ensures) (idle-few (code_in c.gather.result));
      },
      p.distances ∙ sym len,
    )

pub shape_of-status : goal.shape_of-status
shape_of-status c = c.wake.ensures.same ∙ simp length-set

pub returns : goal.returns
returns c =
    let a = c.args in
    removed-from a.s (may_go (marked a.marks.now) a.dist.now) a.status.now a.i c.requires.voxel c.requires.statuses.lent
    (c.idle_bits-idle.ensures ∙ ap (λ (x : ℕ). bits 54 (idle_bit x)) c.gather.ensures.code) c.first_around-at.ensures refl c.wake.ensures
