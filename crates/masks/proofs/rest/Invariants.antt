-- `rest` meets its contract: from the last byte down.
use Rattle.masks.proofs.Loading.{Gathering}
use Rattle.masks.proofs.rest.Given as goal

abbrev pub invariant-loop-j : goal.invariant-loop-j
invariant-loop-j l = Gathering l.status l.at l.m l.j
