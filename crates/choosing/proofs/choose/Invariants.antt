-- `choosing::choose` meets its contract: what is left to look at gives the place.
use mathlib.Core.Path.{◌≡◌}
use mathlib.Core.Bool.{Bool}
use mathlib.Core.List.{List, []}
use Prim.Native.Nat.{ℕ}
use Rattle.office.specs.declared.Grids.{Grids}
use Rattle.office.specs.Serve.{waits, to_serve}
use Rattle.office.specs.Structs.{places_of, office_given}
use Rattle.serving_checks.specs.Given.{grids_of}
use Rattle.choosing.proofs.Choice.{left}
use Rattle.choosing.proofs.choose.Given as goal

abbrev pub w : Grids → List ℕ → ℕ → Bool
w g status = waits (grids_of g [] status)

abbrev pub invariant-loop-p : goal.invariant-loop-p
invariant-loop-p l = to_serve (office_given l.g l.o [] l.status) ≡ left (w l.g l.status) l.g.count (places_of l.o) l.p
