-- `text::put_number` meets its contract.
use lib.ListN.{drop}
use Rattle.text.specs.Line.{number}
use Rattle.text.proofs.Digits.{Digits}
use Rattle.text.proofs.put_number.Given as goal

abbrev pub invariant-loop-rest : goal.invariant-loop-rest
invariant-loop-rest l = Digits l.at (number l.n (drop l.at l.initial.out)) l.initial.out l.out l.start l.rest

abbrev pub decreases-loop-rest : goal.decreases-loop-rest
decreases-loop-rest l = l.rest
