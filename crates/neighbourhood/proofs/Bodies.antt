-- A body: its kept voxels lie off the border, and fit buffers have one.
use mathlib.Core.Path.{◌≡◌, ap}
use mathlib.Core.Logic.{inl, inr}
use mathlib.Core.Bool.{true}
use mathlib.Core.List.{List}
use Prim.Native.Nat.{ℕ, ◌≤◌, ◌<◌}
use native.Mathlib.Omega.{arith}
use lib.IntN.{ℤ}
use Rattle.prelude.proofs.Bools.{two, not-both}
use Rattle.rules.specs.declared.Sides.{Sides}
use Rattle.rules.specs.Grid.{size, on_border}
use Rattle.rules.specs.Status.{status_of, kept_byte, is_kept}
use Rattle.rules.specs.Fit.{Known, FitVoxels}
use Rattle.rules.specs.Neighbours.{Inner}
use Rattle.neighbourhood.specs.Neighbourhood.{Statuses, Body}

module _ (s : Sides) (status : List ℕ) where
  pub kept-inner : Body s status → (i : ℕ) → i < size s → is_kept status i ≡ true → Inner s i
  kept-inner b i h k =
      record {
        sides = b.sides;
        below = h;
        off-border = elim (two (on_border s i)) [ inl e ↦ not-both (is_kept status i) k (b.border i h e) | inr e ↦ e ];
      }

  known-few : (x : ℕ) → Known x → x ≤ 3
  known-few x (inl e) = omega arith
  known-few x (inr (inl e)) = omega arith
  known-few x (inr (inr e)) = omega arith

  pub fit-statuses : (dist : List ℤ) → FitVoxels s dist status → Statuses s status
  fit-statuses dist f = record { lent = f.lent.statuses; few = λ i. known-few (status_of status i) (f.known i) }

  pub fit-body : (dist : List ℤ) → FitVoxels s dist status → Body s status
  unfolding is_kept kept_byte
  fit-body dist f = record { sides = f.lent.sides; statuses = fit-statuses dist f; border = λ i h e. ap kept_byte (f.border i h e) }
