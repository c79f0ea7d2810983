-- `watching::stands` meets its contract.
use mathlib.Core.Path.{ap₂}
use mathlib.Core.Bool.{◌&&◌}
use borrow.Author.Rules.{rules}
use mir.Syntax.{w32}
use mir.Val.{SFits}
use Rattle.rules.specs.Grid.{distance_at}
use Rattle.rules.specs.Status.{is_kept}
use Rattle.rules.specs.Machine.{is_inside}
use Rattle.watching.specs.Watching.{standing}
use Rattle.watching.proofs.Standing.{outside}
use Rattle.watching.proofs.stands.Goals as goal

pub returns : goal.returns
unfolding standing is_kept is_inside
returns c =
    let fits : SFits w32 (distance_at c.args.dist.now c.args.j) = search rules in
    ap₂ ◌&&◌ c.is_kept.ensures (outside (distance_at c.args.dist.now c.args.j) fits)
