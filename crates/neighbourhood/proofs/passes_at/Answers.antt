-- `neighbourhood::passes_at` meets its contract: one group of touched cells, and one of bare ones.
use mathlib.Core.Path.{ap}
use borrow.Author.Rules.{rules}
use Rattle.cells.specs.Cells.{passes}
use Rattle.neighbourhood.proofs.passes_at.Goals as goal

pub returns : goal.returns
unfolding passes
returns c = ap passes c.groups_at-t.ensures
