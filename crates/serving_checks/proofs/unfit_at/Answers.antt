-- `serving_checks::unfit_at` meets its contract: the part of the buffers is the grid's own.
use mathlib.Core.Path.{ap, ◌∙◌}
use Prim.Native.Nat.{◌≤◌}
use lib.ListN.{length}
use borrow.Author.Rules.{rules}
use Rattle.rules.specs.Machine.{unfit}
use Rattle.serving_checks.specs.Given.{sizes_of}
use Rattle.serving_checks.proofs.Places.{part-ordered, part-within, part-lent, part-grid}
use Rattle.serving_checks.proofs.unfit_at.Goals as goal
use Rattle.serving_checks.proofs.unfit_at.Goals.{After-record_at-r}

-- the part lies within both buffers
fits : (c : After-record_at-r) → let a = c.args in
    (c.start_of-from.result ≤ c.start_of-to.result) × (c.start_of-to.result ≤ length a.dist.now) × (c.start_of-to.result ≤ length a.status.now)
fits c =
    let ns = sizes_of c.args.g in (
      part-ordered ns c.args.p _ _ c.start_of-from.ensures c.start_of-to.ensures,
      part-within ns c.args.p _ _ c.start_of-from.ensures c.start_of-to.ensures c.args.dist.now c.requires.0.distances,
      part-within ns c.args.p _ _ c.start_of-from.ensures c.start_of-to.ensures c.args.status.now c.requires.0.statuses,
    )

pub offset_bounds-dist-from : goal.offset_bounds-dist-from
offset_bounds-dist-from c = let w = fits c in search rules

pub slice_bounds-unfit_state-count : goal.slice_bounds-unfit_state-count
slice_bounds-unfit_state-count c = let w = fits c in search rules

pub slice_bounds-unfit_state-start : goal.slice_bounds-unfit_state-start
slice_bounds-unfit_state-start c = let w = fits c in search rules

pub slice_bounds-unfit_state-end : goal.slice_bounds-unfit_state-end
slice_bounds-unfit_state-end c = let w = fits c in search rules

pub slice_bounds-unfit_state-count-2 : goal.slice_bounds-unfit_state-count-2
slice_bounds-unfit_state-count-2 c = let w = fits (goal.at.slice_bounds-unfit_state-count-2 c).After-record_at-r in search rules

pub slice_bounds-unfit_state-start-2 : goal.slice_bounds-unfit_state-start-2
slice_bounds-unfit_state-start-2 c = let w = fits (goal.at.slice_bounds-unfit_state-start-2 c).After-record_at-r in search rules

pub slice_bounds-unfit_state-end-2 : goal.slice_bounds-unfit_state-end-2
slice_bounds-unfit_state-end-2 c = let w = fits (goal.at.slice_bounds-unfit_state-end-2 c).After-record_at-r in search rules

pub unfit_state-requires : goal.unfit_state-requires
unfit_state-requires c =
    part-lent c.args.g _ _ c.requires.0 c.args.p _ _ c.requires.1 c.start_of-from.ensures c.start_of-to.ensures _ c.record_at-r.ensures

pub returns : goal.returns
returns c =
    c.unfit_state.ensures
    ∙ ap unfit (part-grid c.args.g _ _ c.requires.0 c.args.p _ _ c.requires.1 c.start_of-from.ensures c.start_of-to.ensures _ c.record_at-r.ensures)
