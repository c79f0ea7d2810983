-- `gridfile::fill` meets its contract.
use Prim.Native.Nat.{◌-◌}
use Rattle.gridfile.proofs.Filled.{Spreading}
use Rattle.gridfile.proofs.fill.Given as goal

abbrev pub invariant-loop-layer : goal.invariant-loop-layer
invariant-loop-layer l = Spreading l.sides l.file l.initial.values l.values l.start (l.sides.c - l._layer)
