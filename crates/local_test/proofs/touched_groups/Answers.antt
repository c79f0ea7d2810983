-- `local_test::touched_groups` meets its contract: the corners that no edge saves.
use native.Mathlib.Omega.{arith}
use borrow.Author.Rules.{rules}
use Rattle.local_test.proofs.Corners.{groups-by-corners}
use Rattle.local_test.proofs.touched_groups.Goals as goal

pub overflow_sub-result : goal.overflow_sub-result
overflow_sub-result c =
    let p = c.requires in
    omega (arith, groups-by-corners p.0 c.args.t p.1, c.odd_rank.ensures.0)

pub returns : goal.returns
returns c kept e = omega (arith, groups-by-corners kept c.args.t e, c.odd_rank.ensures.0)
