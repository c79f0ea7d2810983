-- `carving::carve_fit` meets its contract.
use Rattle.rules.specs.Marks.{marked}
use Rattle.rules.specs.Machine.{State, state}
use Rattle.counting.proofs.Counting.{countable-still}
use Rattle.carving.proofs.Carving.{carved-is}
use Rattle.carving.proofs.carve_fit.Goals as goal
use Rattle.carving.proofs.carve_fit.Goals.{Start}

abbrev lent-to : Start → State
lent-to c = state c.args.given c.args.dist.now c.args.status.now

pub counted-requires : goal.counted-requires
counted-requires c =
    countable-still (lent-to (goal.at.counted-requires c).Start) c.requires.fit

pub returns : goal.returns
returns c =
    carved-is (marked c.args.marks.now) (lent-to (goal.at.returns c).Start) c.args.limit _ c.carve_all-t.result _ c.carve_all-t.ensures c.counted.ensures
