-- `refusal` is the number of the first check that fails.
use mathlib.Core.Path.{◌≡◌, sym, ap, ap₂, ◌∙◌}
use mathlib.Core.Bool.{Bool, true, ◌&&◌}
use mathlib.Core.List.{[]}
use native.Mathlib.Omega.{arith}
use borrow.Author.Tests.{eq-eqb, ne_eqb}
use lib.Dec.{eqb}
use lib.ListN.{length}
use Rattle.prelude.proofs.Bools.{and_zero}
use Rattle.rules.specs.Grid.{fit_sides, size}
use Rattle.begin_checks.proofs.Numbers.{sides-refused, others-refused, others-held}
use Rattle.beginning.proofs.refusal.Goals as goal
use Rattle.beginning.proofs.refusal.Goals.{Else-not-fit_sides, then-dist-n-via-then-dist-n, then-dist-n-via-else-dist-n+then-status-n}

pub returns-then-not-fit_sides : goal.returns-then-not-fit_sides
returns-then-not-fit_sides c =
    let a = c.args in
    sides-refused a.sides a.values.now a.marks.now _ [] (sym c.fit_sides.ensures ∙ c.if-not-fit_sides.true)

fits : (c : Else-not-fit_sides) → fit_sides c.args.sides ≡ true
fits c = sym c.fit_sides.ensures ∙ c.if-not-fit_sides.false

pub voxel_count-n-requires : goal.voxel_count-n-requires
voxel_count-n-requires c = fits c

pub returns-then-dist-n : goal.returns-then-dist-n
returns-then-dist-n c =
    let a = c.args in
    let e = c.voxel_count-n.ensures.0 in
    let d = eqb (length a.dist.now) (size a.sides) in
    others-refused a.sides a.values.now a.marks.now _ [] (fits (goal.at.returns-then-dist-n c).Else-not-fit_sides)
    (elim c.then-dist-n.branch [
      | then-dist-n-via-then-dist-n w ↦ ap (λ (t : Bool). t && eqb (length a.status.now) (size a.sides)) (ne_eqb _ _ (λ q. omega (arith, w.if-dist-n.true)))
      | then-dist-n-via-else-dist-n+then-status-n w ↦ ap (λ (t : Bool). d && t) (ne_eqb _ _ (λ q. omega (arith, w.if-status-n.true))) ∙ and_zero d
    ])

pub given_refusal-requires : goal.given_refusal-requires
given_refusal-requires c = (fits (goal.at.given_refusal-requires c).Else-not-fit_sides, c.requires)

pub returns : goal.returns
returns c =
    let a = c.args in
    let e = c.voxel_count-n.ensures.0 in
    let d : length a.dist.now ≡ size a.sides = omega (arith, c.if-dist-n.false) in
    let t : length a.status.now ≡ size a.sides = omega (arith, c.if-status-n.false) in
    c.given_refusal.ensures
    ∙ others-held a.sides a.values.now a.marks.now _ [] (fits (goal.at.returns c).Else-not-fit_sides) (ap₂ ◌&&◌ (eq-eqb _ _ d) (eq-eqb _ _ t))
