-- `work_out` leaves what the rule says.
use mathlib.Core.Path.{◌≡◌, sym}
use Prim.Native.Nat.{◌≤◌}
use native.Mathlib.Omega.{arith}
use lib.ListN.{length}
use lib.Seq.{length-take-le}
use borrow.Author.Rules.{rules}
use Rattle.coarse.specs.Blocks.{split_body}
use Rattle.splitting.specs.Split.{byte_of}
use Rattle.coarsening.proofs.Working.{blocked, pinnable, room, together, runnable, splittable, worked-out}
use Rattle.coarsening.proofs.work_out.Goals as goal
use Rattle.coarsening.proofs.work_out.Goals.{After-pin-n, After-work_distances}

dist-kept : (c : After-work_distances) → length c.work_distances.new.dist ≡ length c.args.dist.now
dist-kept c = search rules

pub measure-requires : goal.measure-requires
measure-requires c =
    blocked c.args.sides c.args.values.now _ _ _ _ _ c.requires _ (search rules)

pub pin-n-requires : goal.pin-n-requires
pin-n-requires c =
    pinnable c.args.sides c.args.values.now _ _ _ _ _ c.requires _ (search rules)

-- the blocks' marks are as many as bytes that were lent for them, at most
pin-room : (c : After-pin-n) → c.pin-n.result ≤ length c.pin-n.new.bytes
pin-room c =
    let same : length c.pin-n.new.bytes ≡ length c.args.status.now = search (rules, c.pin-n.auto) in
    let few = room c.args.sides c.args.values.now _ _ _ _ _ c.requires c.pin-n.result c.pin-n.ensures.0 in
    omega arith

pub slice_bounds-run-end : goal.slice_bounds-run-end
slice_bounds-run-end c = pin-room (goal.at.slice_bounds-run-end c).After-pin-n

pub slice_bounds-run-end-2 : goal.slice_bounds-run-end-2
slice_bounds-run-end-2 c = sym (length-take-le _ _ (pin-room (goal.at.slice_bounds-run-end-2 c).After-pin-n))

pub run-examined-requires : goal.run-examined-requires
run-examined-requires c =
    runnable c.args.sides c.args.values.now _ _ _ _ _ c.requires _ c.work_distances.ensures.distances _ c.measure.ensures
    _ c.halved-h.ensures _ (search rules) _
    (omega (arith, length-take-le c.pin-n.result c.pin-n.new.bytes (pin-room (goal.at.run-examined-requires c).After-pin-n), c.pin-n.ensures.0))

pub split-requires : goal.split-requires
split-requires c =
    splittable c.args.sides c.args.values.now _ _ _ _ _ c.requires _ c.work_distances.ensures.distances _ c.measure.ensures
    _ c.halved-h.ensures c.args.marks.now _ c.pin-n.ensures.1 _ _ c.run-examined.ensures (dist-kept (goal.at.split-requires c).After-work_distances) (search (rules, c.run-examined.auto)) _ (search rules)

pub mark_statuses-requires : goal.mark_statuses-requires
mark_statuses-requires c =
    together c.args.sides c.args.values.now _ _ _ _ _ c.requires _ (dist-kept (goal.at.mark_statuses-requires c).After-work_distances)
    (byte_of c.args.sides c.work_distances.new.dist (split_body c.args.sides c.run-examined.new.status)) _ c.split.ensures

pub returns : goal.returns
returns c =
    worked-out c.args.sides c.args.values.now _ _ _ _ _ c.requires _ c.work_distances.ensures.distances _ c.measure.ensures
    _ c.halved-h.ensures c.args.marks.now _ c.pin-n.ensures.1 _ _ c.run-examined.ensures _ _ c.split.ensures c.mark_statuses.ensures
