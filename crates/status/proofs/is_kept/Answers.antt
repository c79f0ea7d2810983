-- `status::is_kept` meets its contract: bit 0, whichever way round it is tested.
use Prim.Native.Nat.{◌%◌}
use Rattle.rules.specs.Status.{kept_byte}
use Rattle.status.proofs.Bytes.{eqb-turned}
use Rattle.status.proofs.is_kept.Goals as goal

pub returns : goal.returns
unfolding kept_byte
returns c = let turned = eqb-turned (c.args.x % 2) 1 in cc
