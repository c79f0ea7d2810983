-- The number with marks, by what the code found.
use mathlib.Core.Path.{◌≡◌, refl, ap, ap₂, sym, ◌∙◌}
use mathlib.Core.Bool.{Bool, true, false, not, ◌||◌}
use mathlib.Core.List.{List, [], ◌∷◌}
use Prim.Native.Nat.{ℕ, ◌≤◌}
use borrow.Author.Tests.{eq-eqb, ne_eqb}
use lib.Dec.{ltb}
use lib.ListN.{length}
use Rattle.rules.specs.declared.Sides.{Sides}
use Rattle.rules.specs.Grid.{fit_sides}
use Rattle.rules.specs.Checks.{Check, ◌when◌, first_failing}
use Rattle.rules.specs.Fit.{Lent, Marking}
use Rattle.rules.specs.Marks.{stray_mark, wrong_marks}
use Rattle.rules.specs.Machine.{State, unfit, wrong_length, marked_checks}
use Rattle.rules.proofs.Checks.{fails-first, holds-first, held_at}
use Rattle.marks.specs.Lent.{All}
use Rattle.marks.proofs.Lent.{few-sized, stray-is}
use Rattle.fitness.specs.Numbers.{lent_checks}
use Rattle.fitness.proofs.Numbers.{lent-holds}

pub few-marks : (marks : List ℕ) (g : State) → Marking marks g → length marks ≤ 262144
few-marks marks g m = few-sized marks g.rec.sides m.working.fit.voxels.lent.sides m.lent

module _ (marks : List ℕ) (g : State) where
  abbrev s : Sides
  s = g.rec.sides

  -- what follows the lengths
  abbrev pub rest : List Check
  rest = 7 when unfit g ∷ 29 when stray_mark marks ∷ 8 when g.rec.finished ∷ []

  -- 1 and 2 without marks come first
  pub lent-refused : (n : ℕ) → n ≡ first_failing (lent_checks g) → (n ≡ 0 → ⊥) → n ≡ first_failing (marked_checks marks g)
  unfolding first_failing
  lent-refused n e f = go (not (fit_sides s)) (wrong_length g) e
    where
      go : (p q : Bool) → n ≡ first_failing (1 when p ∷ 2 when q ∷ [])
          → n ≡ first_failing (1 when p ∷ 2 when (q || wrong_marks s marks) ∷ rest)
      go true q e = e
      go false true e = e
      go false false e = absurd (f e)

  module _ (lent : Lent s g.dist g.status) where
    after-lent : (t : Bool) → wrong_marks s marks ≡ t → first_failing (marked_checks marks g) ≡ first_failing (2 when t ∷ rest)
    unfolding first_failing
    after-lent t e =
        let held = held_at (lent_checks g) (lent-holds g lent) in
        holds-first 1 _ (2 when (wrong_length g || wrong_marks s marks) ∷ rest) (held 1)
        ∙ ap (λ (u : Bool). first_failing (2 when u ∷ rest)) (ap₂ ◌||◌ (held 2) e)

    pub marks-refused : (length marks ≡ length g.status → ⊥) → first_failing (marked_checks marks g) ≡ 2
    unfolding wrong_marks
    marks-refused n = after-lent true (ap not (ne_eqb _ _ (λ e. n (e ∙ sym lent.statuses)))) ∙ fails-first 2 true rest refl

    module _ (same : length marks ≡ length g.status) where
      pub after-lengths : first_failing (marked_checks marks g) ≡ first_failing rest
      unfolding wrong_marks
      after-lengths = after-lent false (ap not (eq-eqb _ _ (same ∙ lent.statuses))) ∙ holds-first 2 false rest refl

      -- 29, by all marks joined
      pub stray-marks : (all : ℕ) → All marks all → ltb 3 all ≡ stray_mark marks
      stray-marks all h = stray-is marks all h (few-sized marks s lent.sides (same ∙ lent.statuses))
