-- `push_each`: the offsets before this one have had their turn.
use lib.ListN.{drop}
use Rattle.pushing.specs.Push.{fill_of}
use Rattle.pushing.proofs.Runs.{Pushing}
use Rattle.floods.specs.Flood.{shifted, spanned}
use Rattle.floods.proofs.push_each.Given as goal

abbrev pub invariant-loop-offset : goal.invariant-loop-offset
invariant-loop-offset l =
    Pushing (shifted l.base (spanned l.patch l.offsets)) (fill_of l.initial.label l.initial.work l.initial.end) (fill_of l.label l.work l.end) (shifted l.base (spanned l.patch (drop l.offset-index l.offsets)))
