-- `choosing::longest_ago` meets its contract: what is left of the order record gives the place.
use mathlib.Core.Path.{◌≡◌}
use mathlib.Core.Bool.{Bool}
use mathlib.Core.List.{List, []}
use Prim.Native.Nat.{ℕ}
use Rattle.office.specs.declared.Grids.{Grids}
use Rattle.office.specs.Order.{first_waiting}
use Rattle.office.specs.Serve.{waits}
use Rattle.serving_checks.specs.Given.{grids_of}
use Rattle.choosing.proofs.Choice.{rest}
use Rattle.choosing.proofs.longest_ago.Given as goal

abbrev pub w : Grids → List ℕ → ℕ → Bool
w g status = waits (grids_of g [] status)

abbrev pub invariant-loop-place : goal.invariant-loop-place
invariant-loop-place l = first_waiting (w l.g l.status) l.place-items ≡ rest (w l.g l.status) l.place-items l.place-index
