-- `status::is_pending` meets its contract: bit 1, whichever way round it is tested.
use Prim.Native.Nat.{◌/◌, ◌%◌}
use Rattle.rules.specs.Status.{pending_byte}
use Rattle.status.proofs.Bytes.{eqb-turned}
use Rattle.status.proofs.is_pending.Goals as goal

pub returns : goal.returns
unfolding pending_byte
returns c = let turned = eqb-turned (c.args.x / 2 % 2) 1 in cc
