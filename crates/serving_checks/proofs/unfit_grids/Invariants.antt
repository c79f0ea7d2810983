-- `serving_checks::unfit_grids` meets its contract: the grids before p are fit.
use mathlib.Core.Path.{◌≡◌}
use mathlib.Core.Bool.{false}
use Prim.Native.Nat.{ℕ, ◌<◌}
use Rattle.rules.specs.Machine.{unfit}
use Rattle.office.specs.Serve.{grid_at}
use Rattle.serving_checks.specs.Given.{grids_of}
use Rattle.serving_checks.proofs.unfit_grids.Given as goal

abbrev pub invariant-loop-p : goal.invariant-loop-p
invariant-loop-p l = (q : ℕ) → q < l.p → unfit (grid_at (grids_of l.g l.dist l.status) q) ≡ false
