-- `examining::run` meets its contract: what remains to be carved gives the same end.
use mathlib.Core.Path.{◌≡◌}
use Rattle.rules.specs.Marks.{marked}
use Rattle.examining.proofs.Running.{Running}
use Rattle.examining.proofs.run.Given as goal

abbrev pub invariant-loop : goal.invariant-loop
invariant-loop l =
    Running l.s (marked l.marks) l.dist l.limit l.initial.status l.initial.offsets l.initial.tree l.initial.front l.status l.offsets l.tree l.front l.examined l.removed l.last l.head × (l.examined ≡ l.counter)
