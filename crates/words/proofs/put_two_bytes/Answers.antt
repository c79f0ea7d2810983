-- `words::put_two_bytes` meets its contract.
use mathlib.Core.Path.{ap₂}
use Prim.Native.Nat.{◌%◌}
use native.Mathlib.Omega.{arith}
use lib.ListN.{set, length-set}
use Rattle.words.proofs.put_two_bytes.Goals as goal

pub bounds-bytes-at-2 : goal.bounds-bytes-at-2
bounds-bytes-at-2 c = simp length-set (omega (arith, c.requires))

pub returns : goal.returns
returns c = ap₂ (set (set c.args.bytes.now c.args.at (c.args.n % 256))) (omega arith) (omega (arith, c.requires))
