-- `queue_waking::wake_around` meets its contract.
use mathlib.Core.Path.{sym, subst₂}
use Prim.Native.Nat.{ℕ, ◌*◌}
use native.Mathlib.Omega.{arith}
use Rattle.touched_cells.specs.Block.{code_in}
use Rattle.neighbourhood.specs.Neighbourhood.{Room}
use Rattle.neighbourhood.proofs.Interior.{layer-small, room}
use Rattle.waking.proofs.Idle.{idle-few}
use Rattle.queue_waking.proofs.wake_around.Goals as goal

pub overflow_mul-s : goal.overflow_mul-s
overflow_mul-s c =
    record { fits = let b = layer-small _ _ c.requires.0.voxel in omega arith }

pub wake-requires : goal.wake-requires
wake-requires c =
    let a = c.args in
    record {
      near_by = c.requires.2;
      queue = c.requires.0.queue;
      bits =
          record {
            room = subst₂ (λ (m n : ℕ). Room a.s.a (a.s.a * a.s.b) m n) (sym c.first_around-at.ensures) (sym c.requires.0.statuses)
                (room a.s a.i c.requires.0.voxel);
            few = omega (arith, c.idle_bits-idle.ensures, idle-few (code_in a.block));
          };
    }
