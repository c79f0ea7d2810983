-- `keys::hurried_scan` meets its contract: the greatest so far, and the bits that are left.
use Rattle.rules.specs.Marks.{marked}
use Rattle.keys.proofs.Scanning.{Scanning}
use Rattle.keys.proofs.hurried_scan.Given as goal

abbrev pub invariant-loop-m : goal.invariant-loop-m
invariant-loop-m l = Scanning (marked l.marks).hurried l.dist l.at l.set l.g l.b l.m

abbrev pub decreases-loop-m : goal.decreases-loop-m
decreases-loop-m l = l.m
