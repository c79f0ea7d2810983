-- Number 31 by the scan of the edge, and the number of all checks.
use mathlib.Core.Path.{◌≡◌, refl, ap, ap₂, sym, ◌∙◌}
use mathlib.Core.Logic.{inl, inr}
use mathlib.Core.Bool.{Bool, true, false, ◌&&◌, ◌||◌}
use mathlib.Core.List.{List, [], ◌∷◌, ◌++◌}
use Prim.Native.Nat.{ℕ, ◌*◌, ◌/◌, ◌%◌, ◌≤◌}
use native.Mathlib.Omega.{arith}
use borrow.Author.Tests.{eqb-true, eq-eqb, ltb-false}
use lib.Dec.{eqb, ltb}
use lib.IntN.{ℤ}
use lib.ListN.{length}
use Rattle.cells.specs.Groups.{any}
use Rattle.prelude.proofs.Bools.{two, and-true, and_comm, or-false, not-false}
use Rattle.prelude.proofs.Lists.{any-ext}
use Rattle.rules.specs.declared.Refusal.{Refusal}
use Rattle.rules.specs.declared.Sides.{Sides}
use Rattle.rules.specs.Grid.{fit_sides, size, voxels, range, measured_negative, value_at}
use Rattle.rules.specs.Checks.{Check, ◌when◌, first_failing}
use Rattle.rules.specs.Refusals.{number_of}
use Rattle.rules.specs.Fit.{Sized}
use Rattle.rules.proofs.Checks.{Deciding, deciding-refused, deciding-next, deciding-done, fails-first, holds-first, held_at}
use Rattle.rules.proofs.Refusals.{numbers, passed}
use Rattle.begin_checks.specs.Given.{near_edge, edge_negative, given_checks}
use Rattle.begin_checks.proofs.Numbers.{calling, sides-refused, others-refused, others-held}
use Rattle.coarse.specs.Coarse.{unfit_side, unfit_sides, near_border, unfit_coarse, FourBuffers, wrong_lengths, coarse_checks}
use Rattle.coarse_checks.specs.Lengths.{Lengths}

-- ---- number 31

module _ (s : Sides) (values : List ℤ) where
  abbrev near : ℕ → Bool
  near i = measured_negative (value_at values i) && near_border s i

  pub by_side : unfit_sides s ≡ true → true ≡ unfit_coarse s values
  unfolding unfit_coarse
  by_side e = ap (λ (t : Bool). t || any near (voxels s)) (sym e)

  pub by-edge : unfit_sides s ≡ false → (r : Bool) → r ≡ any (edge_negative s 2 values) (range 0 (size s)) → r ≡ unfit_coarse s values
  unfolding unfit_coarse voxels near_edge near_border
  by-edge e r f =
      f
      ∙ any-ext (edge_negative s 2 values) near (range 0 (size s)) (λ i m. and_comm (near_edge s 2 i) (measured_negative (value_at values i)))
      ∙ ap (λ (t : Bool). t || any near (range 0 (size s))) (sym e)

  pub wide : unfit_sides s ≡ false → 2 * 2 ≤ s.a
  wide e =
      let p = or-false (unfit_side s.a) (unfit_side s.b || unfit_side s.c) e in
      let q = or-false (eqb (s.a % 2) 1) (ltb s.a 6) p.0 in
      omega (arith, ltb-false s.a 6 q.1)

-- ---- the checks

-- past those on what is given the values have their length
pub sized : (s : Sides) (values : List ℤ) (marks : List ℕ) → fit_sides s ≡ true → 0 ≡ first_failing (given_checks s values marks)
    → Sized s (length values)
sized s values marks e f =
    let wrong = held_at (given_checks s values marks) (passed (given_checks s values marks) refl f) 2 in
    record { sides = e; len = eqb-true (length values) (size s) (not-false _ (or-false _ _ wrong).0) }

module _ (s : Sides) (values : List ℤ) (marks : List ℕ) (l : FourBuffers) where
  abbrev later : List Check
  later = 31 when unfit_coarse s values ∷ []

  -- the lengths of the lent buffers
  abbrev others : Bool
  others =
      eqb (length l.voxels.dist) (size s) && (eqb (length l.voxels.status) (size s)
      && (eqb (length l.blocks.dist) (size s / 8) && eqb (length l.blocks.status) (size s / 8)))

  same : coarse_checks s values marks l ≡ calling s values marks others later
  unfolding wrong_lengths
  same = refl

  pub number-1 : fit_sides s ≡ false → 1 ≡ first_failing (coarse_checks s values marks l)
  number-1 e = sides-refused s values marks others later e ∙ ap first_failing (sym same)

  pub number-2 : fit_sides s ≡ true
      → (length l.voxels.dist ≡ size s → length l.voxels.status ≡ size s → length l.blocks.dist ≡ size s / 8
      → length l.blocks.status ≡ size s / 8 → ⊥)
      → 2 ≡ first_failing (coarse_checks s values marks l)
  number-2 e wrong = others-refused s values marks others later e (elim (two others) [ inl t ↦ absurd (all t) | inr f ↦ f ]) ∙ ap first_failing (sym same)
    where
      all : others ≡ true → ⊥
      all t =
          let d = and-true (eqb (length l.voxels.dist) (size s)) _ t in
          let u = and-true (eqb (length l.voxels.status) (size s)) _ d.1 in
          let b = and-true (eqb (length l.blocks.dist) (size s / 8)) _ u.1 in
          wrong (eqb-true _ _ d.0) (eqb-true _ _ u.0) (eqb-true _ _ b.0) (eqb-true _ _ b.1)

  module _ (e : fit_sides s ≡ true) (L : Lengths l (size s) (size s) (size s / 8) (size s / 8)) where
    left : Deciding (coarse_checks s values marks l) (given_checks s values marks ++ later)
    left =
        others-held s values marks others later e
        (ap₂ ◌&&◌ (eq-eqb _ _ L.dist-len) (ap₂ ◌&&◌ (eq-eqb _ _ L.status-len)
        (ap₂ ◌&&◌ (eq-eqb _ _ L.block-dist-len) (eq-eqb _ _ L.block-status-len))))
        ∙ ap first_failing (sym same)

    pub number-given : (r : Refusal) → number_of r ≡ first_failing (given_checks s values marks) → number_of r ≡ first_failing (coarse_checks s values marks l)
    number-given r f = deciding-refused (coarse_checks s values marks l) (given_checks s values marks) later left (number_of r) f (numbers r)

    module _ (f : 0 ≡ first_failing (given_checks s values marks)) where
      after : Deciding (coarse_checks s values marks l) later
      after = deciding-next (coarse_checks s values marks l) (given_checks s values marks) later left 0 f refl refl

      pub number-31 : unfit_coarse s values ≡ true → 31 ≡ first_failing (coarse_checks s values marks l)
      number-31 u = sym (fails-first 31 (unfit_coarse s values) [] u) ∙ after

      pub number-0 : unfit_coarse s values ≡ false → 0 ≡ first_failing (coarse_checks s values marks l)
      number-0 u = deciding-done (coarse_checks s values marks l) (sym (holds-first 31 (unfit_coarse s values) [] u) ∙ after)
