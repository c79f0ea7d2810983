-- `scans::unheld` meets its contract. The sign of the bits joined tells whether a distance so far is negative where it may not be.
use mathlib.Core.Path.{◌≡◌}
use lib.IntN.{pos}
use lib.Signed.{lt_z}
use lib.ListN.{length}
use Rattle.cells.specs.Groups.{any}
use Rattle.rules.specs.Grid.{range}
use Rattle.scans.specs.Scans.{unheld_at}
use Rattle.scans.proofs.unheld.Given as goal

abbrev pub invariant-loop-d : goal.invariant-loop-d
invariant-loop-d l = lt_z l.all (pos 0) ≡ any (unheld_at l.dist l.status) (range 0 (length l.yielded))
