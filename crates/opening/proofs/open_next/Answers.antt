-- `opening::open_next` meets its contract: refused by a number, or by 15 where nothing is found, or done.
use mathlib.Core.Path.{◌≡◌, sym, ◌∙◌}
use Rattle.std.proofs.lemmas.Result.{err_from_is_err_and}
use Rattle.rules.specs.Marks.{marked}
use Rattle.rules.specs.Machine.{state, may_go, to_open}
use Rattle.opening.proofs.Opening.{searchable, open-refused, open-fit, open-nothing, opens_at, open_done}
use Rattle.opening.proofs.open_next.Goals as goal
use Rattle.opening.proofs.open_next.Goals.{After-to_open}

-- the search in the rule's words
searched :
    (c : After-to_open)
    → let g = state c.args.given c.args.dist.now c.args.status.now in
    c.to_open.result ≡ to_open (may_go (marked c.args.marks.now) g.dist) g
unfolding to_open
searched c = c.to_open.ensures

pub returns-in_err-open_refusal : goal.returns-in_err-open_refusal
returns-in_err-open_refusal c =
    let g = state c.args.given c.args.dist.now c.args.status.now in
    let e = err_from_is_err_and c.from_residual.result c.from_residual.ensures.1 in
    rw (e.1, e.2) (open-refused c.args.marks.now g _ c.in_err-open_refusal.ensures)

pub to_open-requires : goal.to_open-requires
to_open-requires c =
    let g = state c.args.given c.args.dist.now c.args.status.now in
    searchable _ _ (open-fit c.args.marks.now g c.in_ok-open_refusal.ensures)

pub returns-in_default : goal.returns-in_default
returns-in_default c =
    let g = state c.args.given c.args.dist.now c.args.status.now in
    open-nothing _ g c.in_ok-open_refusal.ensures
    (sym (searched (goal.at.returns-in_default c).After-to_open) ∙ c.in_default.is)

pub open_at-requires : goal.open_at-requires
open_at-requires c =
    let g = state c.args.given c.args.dist.now c.args.status.now in
    opens_at _ g c.in_ok-open_refusal.ensures _
    (sym (searched (goal.at.open_at-requires c).After-to_open) ∙ c.in-Some.is)

pub returns : goal.returns
returns c =
    let g = state c.args.given c.args.dist.now c.args.status.now in
    open_done _ g c.in_ok-open_refusal.ensures _
    (sym (searched (goal.at.returns c).After-to_open) ∙ c.in-Some.is) _ c.open_at.ensures
