-- `points::points` meets its contract: refused by the number, or listed where there is none.
use mathlib.Core.Path.{refl}
use Rattle.std.proofs.lemmas.Result.{err_from_is_err_and}
use Rattle.rules.specs.Answer.{untouched}
use Rattle.rules.specs.Machine.{State, state}
use Rattle.rules.proofs.Refusals.{call-refused-by, call-passed}
use Rattle.points.specs.Listing.{points_checks, points}
use Rattle.points.proofs.Listable.{listable, listing-is}
use Rattle.points.proofs.points.Goals as goal
use Rattle.points.proofs.points.Goals.{Start}

abbrev lent-to : Start → State
lent-to c = state c.args.given c.args.dist.now c.args.status.now

pub returns-in_err-points_refusal : goal.returns-in_err-points_refusal
unfolding points
returns-in_err-points_refusal c =
    let g = lent-to (goal.at.returns-in_err-points_refusal c).Start in
    let e = err_from_is_err_and c.from_residual.result c.from_residual.ensures.1 in
    rw (e.1, e.2) (call-refused-by (untouched c.args.out.now) _ (points_checks c.args.position g) _ c.in_err-points_refusal.ensures)

pub list-requires : goal.list-requires
list-requires c =
    let h = listable c.args.position (lent-to (goal.at.list-requires c).Start) c.in_ok-points_refusal.ensures in
    record { fit = h.ended.fit.voxels.lent.sides; lent = h.ended.fit.voxels.lent.distances; within = h.within }

pub returns : goal.returns
unfolding points
returns c =
    let g = lent-to (goal.at.returns c).Start in
    let out = c.args.out.now in
    call-passed (untouched out) _ (points_checks c.args.position g) refl c.in_ok-points_refusal.ensures _
    (listing-is c.args.position g c.in_ok-points_refusal.ensures out _ c.list.ensures)
