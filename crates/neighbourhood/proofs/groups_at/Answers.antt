-- `neighbourhood::groups_at` meets its contract: the groups of what was gathered.
use mathlib.Core.Path.{subst}
use Rattle.cells.specs.Cells.{Test}
use Rattle.local_test.specs.Answers.{GroupsOf}
use Rattle.neighbourhood.proofs.Gathering.{block-test}
use borrow.Author.Rules.{rules}
use Rattle.neighbourhood.proofs.groups_at.Goals as goal

pub groups_of-requires : goal.groups_of-requires
groups_of-requires c = c.gather.ensures.rows

pub returns : goal.returns
returns c =
    subst (λ (t : Test). GroupsOf t c.groups_of.result) (block-test _ _ c.requires.0 _ _ c.gather.ensures) c.groups_of.ensures
