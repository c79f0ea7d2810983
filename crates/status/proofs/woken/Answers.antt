-- `status::woken` meets its contract: bit 1 set.
use native.Mathlib.Omega.{arith}
use lib.Bits.{or_comm}
use Rattle.status.proofs.Bytes.{woken-or}
use Rattle.status.proofs.woken.Goals as goal

pub returns : goal.returns
returns c = omega (arith, woken-or c.args.x, or_comm c.args.x 2)
