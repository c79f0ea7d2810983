-- `fitness::any_pending` meets its contract: bit 1 of all statuses joined.
use native.Mathlib.Omega.{arith}
use mathlib.Core.Path.{◌≡◌, refl, ap, ◌∙◌}
use Prim.Native.Nat.{ℕ, ◌-◌}
use lib.ListN.{length}
use Rattle.cells.specs.Groups.{any}
use Rattle.rules.specs.Grid.{range}
use Rattle.rules.specs.Status.{pending_byte, is_pending}
use Rattle.loops.specs.Joined.{BitTest}
use Rattle.status.proofs.Bytes.{pending-or}
use Rattle.fitness.proofs.any_pending.Goals as goal

pending-test : BitTest pending_byte
unfolding pending_byte
pending-test = record { none = refl; either = pending-or }

pub returns : goal.returns
unfolding is_pending
returns c =
    let status = c.args.status.now in
    let e : length status - 0 ≡ length status = omega arith in
    c.is_pending.ensures ∙ c.joined.ensures.each pending_byte pending-test ∙ ap (λ (n : ℕ). any (is_pending status) (range 0 n)) e
