-- The number of the checks that calls share, by what the code found.
use mathlib.Core.Path.{◌≡◌, refl, ap, ap₂, ◌∙◌}
use mathlib.Core.Bool.{Bool, true, false, not, ◌&&◌, ◌||◌}
use Prim.Native.Nat.{ℕ}
use borrow.Author.Tests.{eqb-true, eq-eqb, not-false}
use lib.ListN.{length}
use Rattle.cells.specs.Groups.{any}
use Rattle.rules.specs.declared.Sides.{Sides}
use Rattle.rules.specs.Grid.{fit_sides, size, range, voxels}
use Rattle.rules.specs.Checks.{first_failing, AllHold}
use Rattle.rules.specs.Machine.{State, unfit_counts, unfit_voxel, unfit, wrong_length}
use Rattle.rules.specs.Fit.{Lent}
use Rattle.rules.proofs.Checks.{fails-first, holds-first, held_at, held_none}
use Rattle.rules.proofs.Fit.{lent-to}
use Rattle.fitness.specs.Numbers.{lent_checks}

not-both-true : (p q : Bool) → (p ≡ true → q ≡ true → ⊥) → not (p && q) ≡ true
not-both-true true true h = absurd (h refl refl)
not-both-true true false h = refl
not-both-true false q h = refl

module _ (g : State) where
  abbrev s : Sides
  s = g.rec.sides

  pub sides-refused : fit_sides s ≡ false → first_failing (lent_checks g) ≡ 1
  sides-refused e = fails-first 1 (not (fit_sides s)) _ (ap not e)

  pub length-refused : fit_sides s ≡ true → (length g.dist ≡ size s → length g.status ≡ size s → ⊥) → first_failing (lent_checks g) ≡ 2
  unfolding wrong_length
  length-refused e h =
      holds-first 1 (not (fit_sides s)) _ (ap not e)
      ∙ fails-first 2 (wrong_length g) _ (not-both-true _ _ (λ d t. h (eqb-true _ _ d) (eqb-true _ _ t)))

  pub lent-holds : Lent s g.dist g.status → AllHold (lent_checks g)
  unfolding wrong_length
  lent-holds lent =
      (ap not lent.sides, (ap₂ (λ (p q : Bool). not (p && q)) (eq-eqb _ _ lent.distances) (eq-eqb _ _ lent.statuses), tt))

  pub held-lent : (n : ℕ) → n ≡ first_failing (lent_checks g) → n ≡ 0 → Lent s g.dist g.status
  held-lent n e z = let held = held_at (lent_checks g) (held_none (lent_checks g) n e refl z) in lent-to g (not-false _ (held 1)) (held 2)

  -- 7: the counts, and then the voxels
  pub counts-unfit : unfit_counts g.rec ≡ true → unfit g ≡ true
  unfolding unfit
  counts-unfit e = ap (λ (t : Bool). t || any (unfit_voxel s g.dist g.status) (voxels s)) e

  pub voxels-unfit : unfit_counts g.rec ≡ false → unfit g ≡ any (unfit_voxel s g.dist g.status) (range 0 (size s))
  unfolding unfit voxels
  voxels-unfit e = ap (λ (t : Bool). t || any (unfit_voxel s g.dist g.status) (range 0 (size s))) e
