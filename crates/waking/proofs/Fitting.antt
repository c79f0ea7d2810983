-- A kept voxel of a fit grid is one that can be removed.
use mathlib.Core.Path.{◌≡◌}
use mathlib.Core.Bool.{true}
use Prim.Native.Nat.{ℕ, ◌<◌}
use Rattle.rules.specs.Grid.{size}
use Rattle.rules.specs.Status.{is_kept}
use Rattle.rules.specs.Machine.{State}
use Rattle.rules.specs.Fit.{FitState}
use Rattle.neighbourhood.proofs.Bodies.{kept-inner, fit-statuses, fit-body}
use Rattle.waking.specs.Waking.{Removable}

module _ (g : State) (f : FitState g) where
  pub kept-removable : (i : ℕ) → i < size g.rec.sides → is_kept g.status i ≡ true → Removable g.rec.sides g.dist g.status i
  kept-removable i h k =
      record {
        voxel = kept-inner _ _ (fit-body _ _ g.dist f.voxels) i h k;
        distances = f.voxels.lent.distances;
        statuses = fit-statuses _ _ g.dist f.voxels;
      }
