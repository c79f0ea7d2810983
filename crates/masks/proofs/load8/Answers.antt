-- `load8` meets its contract: eight bytes, each above the one before.
use native.Mathlib.Omega.{arith}
use Rattle.masks.proofs.Loading.{loaded-eight}
use Rattle.masks.proofs.load8.Goals as goal

pub returns : goal.returns
returns c = loaded-eight c.args.s.now c.args.at (λ i. omega (arith, c.type_inv.s i)) _ c.from_le_bytes.ensures
