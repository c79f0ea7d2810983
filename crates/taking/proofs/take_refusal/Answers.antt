-- `taking::take_refusal` meets its contract: the two lists, one after the other.
use mathlib.Core.Path.{refl, ◌∙◌}
use Rattle.rules.specs.Marks.{marked}
use Rattle.rules.specs.Machine.{State, state, marked_checks, voxel_checks}
use Rattle.rules.proofs.Refusals.{handed_on, refused-before, passed, passed-before}
use Rattle.rules.proofs.Fit.{marking}
use Rattle.taking.proofs.take_refusal.Goals as goal
use Rattle.taking.proofs.take_refusal.Goals.{Start}

abbrev lent-to : Start → State
lent-to c = state c.args.given c.args.dist.now c.args.status.now

pub returns-in_err-marked_refusal : goal.returns-in_err-marked_refusal
returns-in_err-marked_refusal c =
    let g = lent-to (goal.at.returns-in_err-marked_refusal c).Start in
    handed_on _ _ c.from_residual.ensures.1
    ∙ refused-before (marked_checks c.args.marks.now g) (voxel_checks (marked c.args.marks.now) c.args.index g) _ c.in_err-marked_refusal.ensures

pub voxel_refusal-requires : goal.voxel_refusal-requires
voxel_refusal-requires c =
    let g = lent-to (goal.at.voxel_refusal-requires c).Start in
    (marking g c.args.marks.now (passed (marked_checks c.args.marks.now g) refl c.in_ok-marked_refusal.ensures)).working

pub returns : goal.returns
returns c =
    let g = lent-to (goal.at.returns c).Start in
    passed-before (marked_checks c.args.marks.now g) (voxel_checks (marked c.args.marks.now) c.args.index g) refl c.in_ok-marked_refusal.ensures
    _ c.voxel_refusal.ensures
