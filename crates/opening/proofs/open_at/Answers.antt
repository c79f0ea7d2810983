-- `opening::open_at` meets its contract.
use mathlib.Core.Path.{◌≡◌, ◌∙◌}
use borrow.Author.Rules.{sfits_of}
use lib.IntN.{pos, ◌-ℤ◌}
use mir.Syntax.{w32}
use mir.Val.{to_z, of_z}
use mir.Facts.{to_z-of_z}
use Rattle.rules.specs.Marks.{marked}
use Rattle.rules.specs.Machine.{state, may_go}
use Rattle.opening.proofs.Opening.{open-removable, opened-is}
use Rattle.neighbourhood.proofs.Few.{groups-few}
use Rattle.opening.proofs.Counting.{countable-open}
use Rattle.opening.proofs.open_at.Goals as goal
use Rattle.opening.proofs.open_at.Goals.{After-change}

pub groups_at-t-requires : goal.groups_at-t-requires
groups_at-t-requires c =
    let r = open-removable c.args.marks.now c.args.i (state c.args.given c.args.dist.now c.args.status.now) c.requires in
    (r.voxel, r.statuses)

pub remove-requires : goal.remove-requires
remove-requires c =
    open-removable c.args.marks.now c.args.i (state c.args.given c.args.dist.now c.args.status.now) c.requires

pub change-requires : goal.change-requires
change-requires c =
    groups-few c.args.given.sides c.args.status.now c.args.i c.groups_at-t.result c.groups_at-t.ensures

-- the change as the machine holds it
changed :
    (c : After-change)
    → let t = c.groups_at-t.result in to_z w32 (of_z w32 c.change.result) ≡ pos t.k -ℤ pos t.m
changed c = to_z-of_z (sfits_of {w = w32} c.change.type_inv) ∙ c.change.ensures

pub counted-requires : goal.counted-requires
counted-requires c =
    let g = state c.args.given c.args.dist.now c.args.status.now in
    countable-open g c.args.i c.groups_at-t.result c.groups_at-t.ensures c.args.marks.now c.requires _ (changed c)

pub returns : goal.returns
returns c =
    let g = state c.args.given c.args.dist.now c.args.status.now in
    opened-is (may_go (marked c.args.marks.now) g.dist) g c.args.i c.groups_at-t.result _ _ _ c.groups_at-t.ensures
    c.counted.ensures (changed (goal.at.returns c).After-change) c.remove.ensures
