-- `scans::used_layer` meets its contract. The loop has found whether a border voxel is kept in the rows before y.
use mathlib.Core.Path.{◌≡◌}
use Prim.Native.Nat.{◌*◌}
use Rattle.cells.specs.Groups.{any}
use Rattle.rules.specs.Grid.{range}
use Rattle.scans.specs.Scans.{used_border_at}
use Rattle.scans.proofs.used_layer.Given as goal

abbrev pub invariant-loop-y : goal.invariant-loop-y
invariant-loop-y l = l.found ≡ any (used_border_at l.s l.status) (range (l.s.a * (l.s.b * l.z)) (l.s.a * l.y))
