-- `label`: below j the labels are written.
use Rattle.rules.specs.Grid.{distance_at}
use Rattle.loops.specs.InPlace.{Each}
use Rattle.block_start.specs.Start.{label_of}
use Rattle.block_start.proofs.label.Given as goal

abbrev pub invariant-loop-j : goal.invariant-loop-j
invariant-loop-j l = Each 0 (λ k d. label_of (distance_at l.blocks k)) 0 l.j l.initial.status l.status
