-- `run` is the coarse run.
use mathlib.Core.Path.{◌≡◌}
use native.Mathlib.Omega.{arith}
use Rattle.rules.specs.Marks.{marked}
use Rattle.coarse.specs.Coarse.{first_status}
use Rattle.coarse_run.proofs.Running.{marked_start, fit-start, ran}
use Rattle.coarse_run.proofs.run.Goals as goal
use Rattle.coarse_run.proofs.run.Goals.{After-mark_statuses}

-- the status that it carves from
marked-at : (c : After-mark_statuses) → let a = c.args in
    c.mark_statuses.new.status ≡ first_status a.h (marked a.pins.now) a.dist.now
marked-at c =
    marked_start c.args.h c.args.dist.now _ c.requires.0 c.args.pins.now _ _ c.start.ensures c.mark_statuses.ensures

pub carve_all-requires : goal.carve_all-requires
carve_all-requires c =
    fit-start c.args.h c.args.dist.now _ c.requires.0 c.args.pins.now _ (marked-at (goal.at.carve_all-requires c).After-mark_statuses)

pub returns : goal.returns
returns c =
    ran c.args.h c.args.dist.now _ c.requires.0 c.args.pins.now _ _ _ c.carve_all.result (marked-at (goal.at.returns c).After-mark_statuses)
    c.carve_all.ensures (omega (arith, c.voxel_count-n.ensures.0))
