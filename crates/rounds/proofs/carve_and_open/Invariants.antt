-- `rounds::carve_and_open` meets its contract.
use mathlib.Core.Path.{◌≡◌}
use lib.ListN.{length}
use Rattle.rules.specs.Machine.{state}
use Rattle.program.specs.Program.{carve_and_open, rounds_left}
use Rattle.rounds.proofs.Going.{Going, left}
use Rattle.rounds.proofs.carve_and_open.Given as goal

abbrev pub invariant-loop-opening : goal.invariant-loop-opening
invariant-loop-opening l =
    (length l.status ≡ length l.fn.status)
    × Going l.marks (carve_and_open l.marks (rounds_left l.fn.given) (state l.fn.given l.dist l.fn.status)) l.carved l.dist l.status

abbrev pub decreases-loop-opening : goal.decreases-loop-opening
decreases-loop-opening l = left l.carved
