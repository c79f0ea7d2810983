-- `fill`: below i the worked distances are written.
use lib.IntN.{pos}
use lib.ListN.{get_or}
use Rattle.rules.specs.Grid.{value_at}
use Rattle.values.specs.Values.{worked_to}
use Rattle.loops.specs.InPlace.{Each}
use Rattle.values.proofs.fill.Given as goal

abbrev pub invariant-loop-i : goal.invariant-loop-i
invariant-loop-i l = Each (pos 0) (λ k w. worked_to l.m (value_at l.values k) (get_or l.d k 0)) 0 l.i l.initial.dist l.dist
