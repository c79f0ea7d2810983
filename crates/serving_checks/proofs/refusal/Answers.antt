-- `serving_checks::refusal` is the number of the first of these checks that fails.
use mathlib.Core.Path.{◌≡◌, refl, ap, ap₂, sym, ◌∙◌}
use mathlib.Core.Bool.{Bool, ◌||◌}
use mathlib.Core.List.{List, [], ◌∷◌, ◌++◌}
use Prim.Native.Nat.{ℕ}
use lib.ListN.{length}
use Rattle.cells.specs.Groups.{any}
use Rattle.rules.specs.Checks.{Check, ◌when◌, first_failing}
use Rattle.rules.proofs.Checks.{fails-first, holds-first}
use Rattle.rules.proofs.Refusals.{handed_on, refused-before, passed-before, passed}
use Rattle.office.specs.Order.{unfit_order}
use Rattle.office.specs.Structs.{records_of, places_of}
use Rattle.serving_checks.specs.Given.{LaidOut, layout_checks, state_checks}
use Rattle.serving_checks.proofs.Numbers.{laid_out}
use Rattle.serving_checks.proofs.refusal.Goals as goal
use Rattle.serving_checks.proofs.refusal.Goals.{After-stray, In_ok-layout_refusal, then-unfit_grids-via-then-unfit_grids, then-unfit_grids-via-else-unfit_grids+then-unfit}

abbrev layout : In_ok-layout_refusal → List Check
layout c = let a = c.args in layout_checks a.limit a.g (length a.dist.now) (length a.status.now) (length a.marks.now)

abbrev rest : In_ok-layout_refusal → List Check
rest c = let a = c.args in state_checks a.marks.now a.g a.o a.dist.now a.status.now

pub returns-in_err-layout_refusal : goal.returns-in_err-layout_refusal
returns-in_err-layout_refusal c =
    let a = c.args in
    handed_on _ _ c.from_residual.ensures.1
    ∙ refused-before (layout_checks a.limit a.g (length a.dist.now) (length a.status.now) (length a.marks.now))
    (state_checks a.marks.now a.g a.o a.dist.now a.status.now) _ c.in_err-layout_refusal.ensures

-- past 34, 1 and 2
right : (c : In_ok-layout_refusal) → let a = c.args in LaidOut a.g a.dist.now a.status.now
right c =
    let a = c.args in
    (laid_out a.limit a.g a.dist.now a.status.now a.marks.now (passed (layout c) refl c.in_ok-layout_refusal.ensures)).0

behind : (c : In_ok-layout_refusal) → (m : ℕ) → m ≡ first_failing (rest c) → m ≡ first_failing (layout c ++ rest c)
behind c = passed-before (layout c) (rest c) refl c.in_ok-layout_refusal.ensures

pub unfit_grids-requires : goal.unfit_grids-requires
unfit_grids-requires c = right c

pub unfit-requires : goal.unfit-requires
unfit-requires c = (right (goal.at.unfit-requires c).In_ok-layout_refusal).sized.few

pub returns-then-unfit_grids : goal.returns-then-unfit_grids
returns-then-unfit_grids c =
    let a = c.args in
    behind (goal.at.returns-then-unfit_grids c).In_ok-layout_refusal 7 (sym (fails-first 7 _ _ (
    elim c.then-unfit_grids.branch [
      | then-unfit_grids-via-then-unfit_grids w ↦ ap (λ (t : Bool). t || unfit_order a.g.count (places_of a.o)) (sym c.unfit_grids.ensures ∙ w.if-unfit_grids.true)
      | then-unfit_grids-via-else-unfit_grids+then-unfit w ↦ ap₂ ◌||◌ (sym c.unfit_grids.ensures ∙ w.if-unfit_grids.false) (sym w.unfit.ensures ∙ w.if-unfit.true)
    ])))

-- what is left to check: 29 and 8
left : (c : After-stray) → let a = c.args in
    first_failing (state_checks a.marks.now a.g a.o a.dist.now a.status.now)
    ≡ first_failing (29 when c.stray.result ∷ 8 when any (λ r. r.finished) (records_of a.g) ∷ [])
left c =
    let a = c.args in
    holds-first 7 _ _ (ap₂ ◌||◌ (sym c.unfit_grids.ensures ∙ c.if-unfit_grids.false) (sym c.unfit.ensures ∙ c.if-unfit.false))
    ∙ ap (λ (t : Bool). first_failing (29 when t ∷ 8 when any (λ r. r.finished) (records_of a.g) ∷ [])) (sym c.stray.ensures)

pub returns-then-stray : goal.returns-then-stray
returns-then-stray c =
    behind (goal.at.returns-then-stray c).In_ok-layout_refusal 29
    (sym (left (goal.at.returns-then-stray c).After-stray ∙ fails-first 29 _ _ c.if-stray.true))

pub any_finished-requires : goal.any_finished-requires
any_finished-requires c = (right (goal.at.any_finished-requires c).In_ok-layout_refusal).sized.few

pub returns-then-any_finished : goal.returns-then-any_finished
returns-then-any_finished c =
    behind (goal.at.returns-then-any_finished c).In_ok-layout_refusal 8
    (sym (left (goal.at.returns-then-any_finished c).After-stray ∙ holds-first 29 _ _ c.if-stray.false ∙ fails-first 8 _ [] (sym c.any_finished.ensures ∙ c.if-any_finished.true)))

pub returns : goal.returns
unfolding first_failing
returns c =
    behind (goal.at.returns c).In_ok-layout_refusal 0
    (sym (left (goal.at.returns c).After-stray ∙ holds-first 29 _ (8 when any (λ r. r.finished) (records_of c.args.g) ∷ []) c.if-stray.false ∙ holds-first 8 _ [] (sym c.any_finished.ensures ∙ c.if-any_finished.false)))
