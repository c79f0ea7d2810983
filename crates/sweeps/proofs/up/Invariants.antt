-- `up`: the positions before q have had their turn.
use Rattle.std.proofs.Common.{false}
use Rattle.sweeps.proofs.Sweeping.{Sweeping}
use Rattle.sweeps.proofs.up.Given as goal

abbrev pub invariant-loop-q : goal.invariant-loop-q
invariant-loop-q l = Sweeping l.st l.m l.at false l.initial.d l.d l.q
