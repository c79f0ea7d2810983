-- `choosing::choose` meets its contract: what is left to look at gives the place.
use mathlib.Core.Path.{◌≡◌, ap, sym, ◌∙◌}
use mathlib.Core.Bool.{Bool, true, false, cond}
use mathlib.Core.List.{[]}
use Rattle.std.specs.Prelude.{Some}
use Prim.Native.Nat.{ℕ, ◌+◌}
use Rattle.office.specs.Order.{queue, first_waiting}
use Rattle.office.specs.Serve.{no_record, grid_at, waits, to_serve}
use Rattle.office.specs.Structs.{places_of, office_given}
use Rattle.order_record.proofs.Places.{length-listed}
use Rattle.choosing.proofs.Choice.{left, left-start, left-next, left-none}
use Rattle.choosing.proofs.choose.Invariants.{w}
use Rattle.choosing.proofs.choose.Goals as goal
use Rattle.choosing.proofs.choose.Goals.{After-waits_unserved}

pub loop-p-init : goal.loop-p-init
unfolding to_serve waits grid_at
loop-p-init c =
    let a = c.args in
    ap (λ (n : ℕ). first_waiting (w a.g a.status.now) (queue n (places_of a.o))) (length-listed no_record a.g.count a.g.records)
    ∙ left-start (w a.g a.status.now) a.g.count (places_of a.o)

-- what is left from p on, by whether something is pending there and p never served
by : (c : After-waits_unserved) (t : Bool) → c.waits_unserved.result ≡ t → let a = c.args in
    to_serve (office_given a.g a.o [] a.status.now)
    ≡ cond t (Some c.loop-p.p) (left (w a.g a.status.now) a.g.count (places_of a.o) (c.loop-p.p + 1))
by c t e =
    let a = c.args in
    c.loop-p.invariant
    ∙ left-next (w a.g a.status.now) a.g.count (places_of a.o) c.loop-p.p c.loop-p-test.true c.waits_unserved.result t e
    c.waits_unserved.ensures

pub returns-then-waits_unserved : goal.returns-then-waits_unserved
returns-then-waits_unserved c = sym (by (goal.at.returns-then-waits_unserved c).After-waits_unserved true c.if-waits_unserved.true)

pub loop-p-preserved : goal.loop-p-preserved
loop-p-preserved c = by (goal.at.loop-p-preserved c).After-waits_unserved false c.if-waits_unserved.false

pub returns : goal.returns
returns c =
    let a = c.args in
    c.longest_ago.ensures ∙ sym (c.loop-p.invariant ∙ left-none (w a.g a.status.now) a.g.count (places_of a.o) c.loop-p.p c.loop-p-test.false)
