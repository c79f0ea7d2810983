-- `front::part` meets its contract.
use Rattle.rules.specs.Marks.{marked}
use Rattle.keys.specs.Key.{key_at}
use Rattle.front.specs.Front.{Parting}
use Rattle.front.proofs.Taking.{Taking}
use Rattle.front.proofs.part.Given as goal

abbrev pub invariant-loop-m : goal.invariant-loop-m
invariant-loop-m l =
    (P : Parting (marked l.marks).hurried l.dist l.status l.initial.front l.k l.floor)
    → Taking (key_at (marked l.marks).hurried l.dist l.status) l.k l.floor P.falls l.initial.front l.front l.e l.g l.m

abbrev pub decreases-loop-m : goal.decreases-loop-m
decreases-loop-m l = l.m
