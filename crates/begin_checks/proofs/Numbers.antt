-- The number of the checks by what the scans found, and the same checks in the list of a call.
use mathlib.Core.Path.{◌≡◌, ap, sym}
use mathlib.Core.Bool.{Bool, true, false, not, cond, ◌&&◌, ◌||◌}
use mathlib.Core.List.{List, ◌∷◌, ◌++◌}
use Prim.Native.Nat.{ℕ}
use native.Mathlib.Omega.{arith}
use lib.Dec.{eqb}
use lib.IntN.{ℤ}
use lib.ListN.{length}
use Rattle.cells.specs.Groups.{any}
use Rattle.prelude.proofs.Bools.{and_zero, and_one}
use Rattle.prelude.proofs.Ranges.{any-run-ext}
use Rattle.rules.specs.declared.Sides.{Sides}
use Rattle.rules.specs.Value.{stray}
use Rattle.rules.specs.Grid.{fit_sides, size, range, voxels, on_border, measured_negative, value_at}
use Rattle.rules.specs.Marks.{stray_mark, wrong_marks}
use Rattle.rules.specs.Checks.{Check, ◌when◌, first_failing}
use Rattle.rules.proofs.Checks.{Deciding}
use Rattle.begin_checks.specs.Given.{negative_at, edge_negative, value_checks, given_checks}
use Rattle.begin_checks.proofs.Edges.{border-near}

module _ (s : Sides) (values : List ℤ) (marks : List ℕ) where
  -- a length is wrong
  abbrev pub wrong-length : Bool
  wrong-length = not (eqb (length values) (size s)) || wrong_marks s marks

  -- the border is the edge of width 1
  on-border : any (λ i. on_border s i && measured_negative (value_at values i)) (voxels s) ≡ any (edge_negative s 1 values) (range 0 (size s))
  unfolding voxels
  on-border =
      any-run-ext _ (edge_negative s 1 values) 0 (size s)
      (λ i l h. ap (λ (t : Bool). t && measured_negative (value_at values i)) (sym (border-near s i (omega arith))))

  -- the checks in turn
  abbrev pub turns : Bool → Bool → Bool → Bool → Bool → ℕ
  turns w o v r t = cond w 2 (cond o 28 (cond v 29 (cond r 3 (cond (not t) 4 0))))

  pub number_is : (w o v r t : Bool) → wrong-length ≡ w → any stray values ≡ o → stray_mark marks ≡ v
      → any (edge_negative s 1 values) (range 0 (size s)) ≡ r → any (negative_at values) (range 0 (size s)) ≡ t
      → turns w o v r t ≡ first_failing (given_checks s values marks)
  unfolding first_failing voxels
  number_is w o v r t e f g h i = let b = on-border in cc

  -- ---- the same checks in the list of a call that is lent other buffers too, whose lengths are right or not

  module _ (others : Bool) (later : List Check) where
    abbrev pub calling : List Check
    calling =
        1 when not (fit_sides s)
        ∷ 2 when (not (eqb (length values) (size s) && others) || wrong_marks s marks)
        ∷ (value_checks s values marks ++ later)

    pub sides-refused : fit_sides s ≡ false → 1 ≡ first_failing calling
    unfolding first_failing
    sides-refused e = simp (e)

    pub others-refused : fit_sides s ≡ true → others ≡ false → 2 ≡ first_failing calling
    unfolding first_failing
    others-refused e f = simp (e, f, and_zero (eqb (length values) (size s)))

    -- what is left are those on what is given
    pub others-held : fit_sides s ≡ true → others ≡ true → Deciding calling (given_checks s values marks ++ later)
    unfolding first_failing
    others-held e f = simp (e, f, and_one (eqb (length values) (size s)))
