-- `taking::take_fit` meets its contract.
use Rattle.rules.specs.Marks.{marked}
use Rattle.rules.specs.Machine.{State, state, may_go}
use Rattle.taking.proofs.Taking.{take-removable, taken_is}
use Rattle.counting.proofs.Counting.{countable-still}
use Rattle.taking.proofs.take_fit.Goals as goal
use Rattle.taking.proofs.take_fit.Goals.{Start}

abbrev lent-to : Start → State
lent-to c = state c.args.given c.args.dist.now c.args.status.now

pub groups_at-t-requires : goal.groups_at-t-requires
groups_at-t-requires c =
    let r = take-removable c.args.marks.now c.args.index (lent-to (goal.at.groups_at-t-requires c).Start) c.requires in
    (r.voxel, r.statuses)

pub remove-requires : goal.remove-requires
remove-requires c =
    take-removable c.args.marks.now c.args.index (lent-to (goal.at.remove-requires c).Start) c.requires

pub counted-requires : goal.counted-requires
counted-requires c =
    countable-still (lent-to (goal.at.counted-requires c).Start) c.requires.marking.working.fit

pub returns : goal.returns
returns c =
    taken_is (may_go (marked c.args.marks.now) (lent-to (goal.at.returns c).Start).dist) (lent-to (goal.at.returns c).Start) c.args.index c.groups_at-t.result _ _ c.groups_at-t.ensures
    c.counted.ensures c.remove.ensures
