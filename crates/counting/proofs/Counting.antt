-- The counts of a fit record have room for one call.
use Prim.Native.Nat.{ℕ, ◌+◌, ◌≤◌}
use native.Mathlib.Omega.{arith}
use lib.IntN.{ℤ, pos, nat_abs}
use Rattle.rules.specs.Machine.{State}
use Rattle.rules.specs.Fit.{FitState}
use Rattle.rules.proofs.Places.{fit}
use Rattle.rules.proofs.Rows.{size-high}
use Rattle.counting.specs.Counting.{Countable}

module _ (g : State) (f : FitState g) where
  pub countable : (opened : ℕ) (change : ℤ) → g.rec.openings + opened ≤ g.rec.allowed → nat_abs change ≤ 52 → Countable g.rec opened change
  countable o c ho hc =
      let n = size-high g.rec.sides (fit g.rec.sides f.voxels.lent.sides) in
      record {
        examinations = omega (arith, f.examinations);
        removals = omega (arith, f.removals);
        openings = ho;
        euler = omega (arith, f.euler);
        small = hc;
      }

  -- a call that opens nothing
  pub countable-still : Countable g.rec 0 (pos 0)
  countable-still = countable 0 (pos 0) (omega (arith, f.openings)) (omega arith)
