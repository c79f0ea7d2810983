-- `choosing::waits_at` meets its contract: the part of the status bytes is the grid's own.
use mathlib.Core.Path.{◌∙◌}
use Prim.Native.Nat.{◌≤◌}
use lib.ListN.{length}
use borrow.Author.Rules.{rules}
use Rattle.serving_checks.specs.Given.{sizes_of}
use Rattle.serving_checks.proofs.Places.{part-ordered, part-within}
use Rattle.choosing.proofs.Choice.{part-waits}
use Rattle.choosing.proofs.waits_at.Goals as goal
use Rattle.choosing.proofs.waits_at.Goals.{After-start_of-to}

-- the part lies within the status bytes
ordered : (c : After-start_of-to) → c.start_of-from.result ≤ c.start_of-to.result
ordered c =
    part-ordered (sizes_of c.args.g) c.args.p _ _ c.start_of-from.ensures c.start_of-to.ensures

within : (c : After-start_of-to) → c.start_of-to.result ≤ length c.args.status.now
within c =
    part-within (sizes_of c.args.g) c.args.p _ _ c.start_of-from.ensures c.start_of-to.ensures c.args.status.now c.requires.0.statuses

pub slice_bounds-any_pending-count : goal.slice_bounds-any_pending-count
slice_bounds-any_pending-count c = ordered c

pub slice_bounds-any_pending-start : goal.slice_bounds-any_pending-start
slice_bounds-any_pending-start c = let o = ordered c in search rules

pub slice_bounds-any_pending-end : goal.slice_bounds-any_pending-end
slice_bounds-any_pending-end c = let w = within c in search rules

pub returns : goal.returns
returns c =
    c.any_pending.ensures ∙ part-waits c.args.g _ c.requires.0.statuses c.args.p _ _ c.start_of-from.ensures c.start_of-to.ensures
