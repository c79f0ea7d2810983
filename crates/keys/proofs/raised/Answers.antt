-- `raised` meets its contract: 64 bits hold the sum.
use mathlib.Core.Path.{ap}
use native.Mathlib.Omega.{arith}
use lib.IntN.{nat_abs}
use Rattle.keys.proofs.Ranks.{raised-read, rank-small}
use Rattle.keys.proofs.raised.Goals as goal

pub returns : goal.returns
returns c =
    let e = ap nat_abs (raised-read c.args.d c.from.result c.ranges.d c.from.ensures) in
    let l = rank-small c.args.d c.ranges.d in
    (e, omega arith)
