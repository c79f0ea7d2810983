-- `mark`: the rows before this one are marked.
use Prim.Native.Nat.{◌*◌}
use Rattle.loops.specs.InPlace.{Each}
use Rattle.labels.specs.Labels.{mark_of}
use Rattle.labels.proofs.mark.Given as goal

abbrev pub invariant-loop-row : goal.invariant-loop-row
invariant-loop-row l = Each 0 (λ k d. mark_of l.sides l.values k) 0 (l.sides.a * l.row) l.initial.label l.label
