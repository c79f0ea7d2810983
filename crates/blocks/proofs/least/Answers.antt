-- `least`: the lesser of four and four.
use native.Mathlib.Omega.{arith}
use Rattle.std.proofs.lemmas.Int.{ints, clamps}
use Rattle.rules.specs.Grid.{distance_at}
use Rattle.blocks.proofs.Corners.{least-corners}
use Rattle.blocks.proofs.least.Goals as goal

pub returns : goal.returns
returns c = omega (arith, ints, clamps, least-corners (distance_at c.args.dist.now) c.args.a c.args.l c.args.at)
