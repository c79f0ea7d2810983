-- `watching::any_at_all` meets its contract: no voxel before j passes.
use mathlib.Core.Path.{◌≡◌}
use mathlib.Core.Bool.{false}
use Prim.Native.Nat.{ℕ, ◌<◌}
use Rattle.rules.specs.Status.{is_kept}
use Rattle.rules.specs.Machine.{is_inside}
use Rattle.judging.specs.Judge.{can_pass}
use Rattle.watching.proofs.any_at_all.Given as goal

abbrev pub invariant-loop-j : goal.invariant-loop-j
invariant-loop-j l = (i : ℕ) → i < l.j → can_pass l.s (is_inside l.dist) (is_kept l.status) i ≡ false
