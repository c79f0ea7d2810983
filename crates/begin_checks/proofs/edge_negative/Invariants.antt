-- `edge_negative`: the rows before this one have been looked at.
use mathlib.Core.Path.{◌≡◌}
use Prim.Native.Nat.{◌*◌}
use Rattle.cells.specs.Groups.{any}
use Rattle.rules.specs.Grid.{range}
use Rattle.begin_checks.specs.Given.{edge_negative}
use Rattle.begin_checks.proofs.edge_negative.Given as goal

abbrev pub invariant-loop-row : goal.invariant-loop-row
invariant-loop-row l = l.found ≡ any (edge_negative l.sides l.width l.values) (range 0 (l.sides.a * l.row))
