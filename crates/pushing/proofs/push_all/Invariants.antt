-- `push_all`: the voxels of the run before j have had their turn.
use Prim.Native.Nat.{◌+◌, ◌-◌}
use Rattle.rules.specs.Grid.{range}
use Rattle.pushing.specs.Push.{fill_of}
use Rattle.pushing.proofs.Runs.{Pushing}
use Rattle.pushing.proofs.push_all.Given as goal

abbrev pub invariant-loop-j : goal.invariant-loop-j
invariant-loop-j l =
    Pushing (range l.first l.wide) (fill_of l.initial.label l.initial.work l.initial.end) (fill_of l.label l.work l.end) (range l.j (l.first + l.wide - l.j))
