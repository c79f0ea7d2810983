-- `keys::plain_scan` meets its contract: where none is hurried the rank is the distance's.
use Rattle.rules.specs.Marks.{unmarked}
use Rattle.keys.specs.Key.{rank_of}
use Rattle.keys.proofs.Scanning.{Scanning}
use Rattle.keys.proofs.plain_scan.Given as goal

abbrev pub invariant-loop-m : goal.invariant-loop-m
invariant-loop-m l = Scanning unmarked.hurried l.dist l.at l.set (rank_of l.g) l.b l.m

abbrev pub decreases-loop-m : goal.decreases-loop-m
decreases-loop-m l = l.m
