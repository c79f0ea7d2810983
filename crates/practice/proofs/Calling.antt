-- The call by what the code finds: sides and length unfit or fit, and the values after both passes.
use Rattle.std.proofs.Common.{◌≡◌, ℕ, true, false, List, map, length, get_or, ℤ, pos, ap, ◌∙◌, arith, eq-eqb, ne_eqb}
use Rattle.prelude.proofs.Ranges.{get_d-map-range, length-map-range, is-map-range}
use Rattle.rules.specs.declared.Sides.{Sides}
use Rattle.rules.specs.Grid.{range, fit_sides, size, voxels}
use Rattle.rules.specs.Checks.{unless}
use Rattle.rules.specs.Answer.{done, outcome, untouched}
use Rattle.loops.specs.InPlace.{Each}
use Rattle.practice.specs.Practice.{practice_at, practised, practice}
use Rattle.practice.specs.Work.{drawn_at, framed_at}

module _ (s : Sides) (seed : ℕ) (values : List ℤ) where
  pub sides-refused : fit_sides s ≡ false → untouched values 1 ≡ practice s seed values
  unfolding practice unless
  sides-refused e = rw e

  module _ (fit : fit_sides s ≡ true) where
    pub length-refused : (length values ≡ size s → ⊥) → untouched values 2 ≡ practice s seed values
    unfolding practice unless
    length-refused e = rw (fit, ne_eqb (length values) (size s) e)

    module _ (len : length values ≡ size s) where
      both-passes : (drawn after : List ℤ) → drawn ≡ map (drawn_at seed) (range 0 (length values)) → Each (pos 0) (framed_at s) 0 (size s) drawn after
          → after ≡ practised s seed
      unfolding practised voxels practice_at
      both-passes drawn after e F =
          is-map-range (practice_at s seed) (pos 0) (size s) after (F.len ∙ ap length e ∙ length-map-range (drawn_at seed) (length values) ∙ len)
          (λ i h. F.inside i (omega arith) h
          ∙ ap (framed_at s i) (ap (λ (l : List ℤ). get_or l i (pos 0)) e ∙ get_d-map-range (drawn_at seed) (pos 0) (length values) i (omega (arith, len))))

      pub filled : (drawn after : List ℤ) → drawn ≡ map (drawn_at seed) (range 0 (length values)) → Each (pos 0) (framed_at s) 0 (size s) drawn after
          → outcome (done tt) after ≡ practice s seed values
      unfolding practice unless
      filled drawn after e F = rw (fit, eq-eqb (length values) (size s) len, both-passes drawn after e F)
