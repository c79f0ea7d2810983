-- `serving_checks::layout_refusal` is the number of the first of these checks that fails.
use mathlib.Core.Path.{◌≡◌, ap, sym, ◌∙◌}
use mathlib.Core.Bool.{false, not, ◌&&◌}
use mathlib.Core.List.{[], ◌∷◌}
use Prim.Native.Nat.{ℕ}
use lib.Dec.{eqb}
use borrow.Author.Rules.{rules}
use Rattle.cells.specs.Groups.{any}
use Rattle.rules.specs.Grid.{fit_sides}
use Rattle.rules.specs.Checks.{◌when◌, first_failing}
use Rattle.rules.proofs.Checks.{fails-first, holds-first}
use Rattle.office.specs.Serve.{within}
use Rattle.office.specs.Structs.{records_of}
use Rattle.serving_checks.specs.Given.{layout_checks}
use Rattle.serving_checks.proofs.Numbers.{few-grids, sized, all-sizes, same-lengths, other-lengths}
use Rattle.serving_checks.proofs.layout_refusal.Goals as goal
use Rattle.serving_checks.proofs.layout_refusal.Goals.{After-start_of-n, Else-not-in_range, Else-unfit_sides}
use Rattle.serving_checks.proofs.layout_refusal.Goals.{then-dist-n-via-then-dist-n, then-dist-n-via-else-dist-n+then-status-n, then-dist-n-via-else-dist-n+else-status-n+then-marks-n}

pub returns-then-not-in_range : goal.returns-then-not-in_range
returns-then-not-in_range c = sym (fails-first 34 _ _ (ap not (sym c.in_range.ensures ∙ c.if-not-in_range.true)))

-- past 34
past : (c : Else-not-in_range) → let a = c.args in not (within 1 1000 a.limit && within 1 16 a.g.count) ≡ false
past c = ap not (sym c.in_range.ensures ∙ c.if-not-in_range.false)

pub unfit_sides-requires : goal.unfit_sides-requires
unfit_sides-requires c = few-grids c.args.limit c.args.g.count (past c)

pub returns-then-unfit_sides : goal.returns-then-unfit_sides
returns-then-unfit_sides c =
    sym (holds-first 34 _ _ (past (goal.at.returns-then-unfit_sides c).Else-not-in_range) ∙ fails-first 1 _ _ (sym c.unfit_sides.ensures ∙ c.if-unfit_sides.true))

-- past 1
fit : (c : Else-unfit_sides) → any (λ r. not (fit_sides r.sides)) (records_of c.args.g) ≡ false
fit c = sym c.unfit_sides.ensures ∙ c.if-unfit_sides.false

pub start_of-n-requires : goal.start_of-n-requires
start_of-n-requires c =
    (sized c.args.g (few-grids c.args.limit c.args.g.count (past (goal.at.start_of-n-requires c).Else-not-in_range)) (fit c), search rules)

-- what is left to check: the lengths against the sum of the sizes
behind : (c : After-start_of-n) → let a = c.args in let n = c.start_of-n.result in
    first_failing (layout_checks a.limit a.g a.dist a.status a.marks)
    ≡ first_failing (2 when not (eqb a.dist n && (eqb a.status n && eqb a.marks n)) ∷ [])
behind c =
    let a = c.args in
    holds-first 34 _ _ (ap not (sym c.in_range.ensures ∙ c.if-not-in_range.false)) ∙ holds-first 1 _ _ (sym c.unfit_sides.ensures ∙ c.if-unfit_sides.false)
    ∙ ap (λ (n : ℕ). first_failing (2 when not (eqb a.dist n && (eqb a.status n && eqb a.marks n)) ∷ []))
    (sym (c.start_of-n.ensures ∙ all-sizes a.g))

pub returns-then-dist-n : goal.returns-then-dist-n
returns-then-dist-n c =
    let a = c.args in
    sym (behind (goal.at.returns-then-dist-n c).After-start_of-n
    ∙ fails-first 2 _ [] (other-lengths a.dist a.status a.marks c.start_of-n.result (λ d s m.
    elim c.then-dist-n.branch [
      | then-dist-n-via-then-dist-n w ↦ w.if-dist-n.true d
      | then-dist-n-via-else-dist-n+then-status-n w ↦ w.if-status-n.true s
      | then-dist-n-via-else-dist-n+else-status-n+then-marks-n w ↦ w.if-marks-n.true m
    ])))

pub returns : goal.returns
unfolding first_failing
returns c =
    let a = c.args in
    sym (behind (goal.at.returns c).After-start_of-n
    ∙ holds-first 2 _ [] (same-lengths a.dist a.status a.marks c.start_of-n.result c.if-dist-n.false c.if-status-n.false c.if-marks-n.false))
