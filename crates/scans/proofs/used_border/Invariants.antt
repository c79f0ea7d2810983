-- `scans::used_border` meets its contract. The loop has found whether a border voxel is kept in the layers before z.
use mathlib.Core.Path.{◌≡◌}
use Prim.Native.Nat.{◌*◌}
use Rattle.cells.specs.Groups.{any}
use Rattle.rules.specs.Grid.{range}
use Rattle.scans.specs.Scans.{used_border_at}
use Rattle.scans.proofs.used_border.Given as goal

abbrev pub invariant-loop-z : goal.invariant-loop-z
invariant-loop-z l = l.found ≡ any (used_border_at l.s l.status) (range 0 (l.s.a * (l.s.b * l.z)))
