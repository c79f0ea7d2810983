-- `verdicts::judge` meets its contract: refused by the number, or accepted, with the bytes put back.
use mathlib.Core.Path.{◌≡◌, refl, ap, sym, ◌∙◌}
use borrow.Author.Rules.{rules}
use lib.IntN.{ℤ}
use mir.Syntax.{w32}
use mir.Val.{SFits}
use mir.Facts.{to_z-of_z}
use Prim.Native.Nat.{ℕ}
use Rattle.rules.specs.Checks.{first_failing}
use Rattle.rules.specs.Machine.{State, state, is_inside, working_checks}
use Rattle.judging.specs.Judge.{entry_count, start_from, list_checks}
use Rattle.rules.specs.Refusals.{number_in}
use Rattle.rules.proofs.Fit.{working}
use Rattle.rules.proofs.Refusals.{passed}
use Rattle.verdicts.proofs.Judging.{judge-unfit, judge-refused, judge-accepted}
use Rattle.verdicts.proofs.judge.Goals as goal
use Rattle.verdicts.proofs.judge.Goals.{After-put_back, Start}

abbrev lent-to : Start → State
lent-to c = state c.args.given c.args.dist.now c.args.status.now

pub returns-in_err-working_refusal : goal.returns-in_err-working_refusal
returns-in_err-working_refusal c =
    judge-unfit c.args.list.now (lent-to (goal.at.returns-in_err-working_refusal c).Start) _ _ c.from_residual.ensures.1 c.in_err-working_refusal.ensures

pub walk-verdict-requires : goal.walk-verdict-requires
walk-verdict-requires c =
    let g = lent-to (goal.at.walk-verdict-requires c).Start in
    record { fit = (working g (passed (working_checks g) refl c.in_ok-working_refusal.ensures)).fit.voxels; few = search rules }

pub put_back-requires : goal.put_back-requires
put_back-requires c = c.walk-verdict.ensures.listed

-- the bytes after it are those that were lent
restored : (c : After-put_back) → c.put_back.new.status ≡ c.args.status.now
restored c = c.put_back.ensures ∙ c.walk-verdict.ensures.back

decided : (c : After-put_back) → let a = c.args in
    number_in c.walk-verdict.result.verdict
    ≡ first_failing (list_checks a.given.sides (is_inside a.dist.now) a.given.allowed a.list.now (entry_count a.list.now) 0 (start_from a.status.now))
decided c =
    let a = c.args in
    c.walk-verdict.ensures.number
    ∙ ap (λ (T : ℕ). first_failing (list_checks a.given.sides (is_inside a.dist.now) T a.list.now (entry_count a.list.now) 0 (start_from a.status.now)))
    c.from.ensures

pub returns-in_err-verdict : goal.returns-in_err-verdict
returns-in_err-verdict c =
    judge-refused c.args.list.now (lent-to (goal.at.returns-in_err-verdict c).Start) c.in_ok-working_refusal.ensures _
    (decided (goal.at.returns-in_err-verdict c).After-put_back) _
    (restored (goal.at.returns-in_err-verdict c).After-put_back) _ _ c.from_residual-in_err-verdict.ensures.1 (sym (ap number_in c.in_err-verdict.was))

pub returns : goal.returns
returns c =
    let t = c.walk-verdict.result.tally in
    let fits : SFits w32 t.euler = search rules in
    let none : number_in c.walk-verdict.result.verdict ≡ 0 = ap number_in c.in_ok-verdict.was in
    judge-accepted c.args.list.now (lent-to (goal.at.returns c).Start) c.in_ok-working_refusal.ensures _
    (decided (goal.at.returns c).After-put_back) _
    (restored (goal.at.returns c).After-put_back) none _
    (ap (λ (z : ℤ). record { removed = t.removed; opened = t.opened; euler = z }) (to_z-of_z fits) ∙ c.walk-verdict.ensures.answer none)
