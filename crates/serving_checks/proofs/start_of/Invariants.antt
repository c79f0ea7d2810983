-- `serving_checks::start_of` meets its contract: the sum of the sizes so far, 262,144 a grid at most.
use Rattle.serving_checks.proofs.Places.{Summing}
use Rattle.serving_checks.proofs.start_of.Given as goal

abbrev pub invariant-loop-given : goal.invariant-loop-given
invariant-loop-given l = Summing l.fn.g l.given-index l.from
