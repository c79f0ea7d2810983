-- `transpose`: the columns before j stand where they are to stand.
use Rattle.transposing.specs.Transposed.{Transposed}
use Rattle.transposing.proofs.transpose.Given as goal

abbrev pub invariant-loop-j : goal.invariant-loop-j
invariant-loop-j l = Transposed l.from l.at l.rows l.m l.j l.first l.initial.to l.to
