-- `choosing::longest_ago` meets its contract: what is left of the order record gives the place.
use mathlib.Core.Path.{◌≡◌, ap, sym, ◌∙◌}
use mathlib.Core.Bool.{Bool, true, false, cond}
use mathlib.Core.List.{List}
use Rattle.std.specs.Prelude.{Some}
use Prim.Native.Nat.{ℕ, ◌+◌, ◌<◌}
use native.Mathlib.Omega.{arith}
use lib.ListN.{length, get_or}
use Rattle.office.specs.Order.{first_waiting}
use Rattle.order_record.proofs.Places.{length-places, listed_at}
use Rattle.choosing.proofs.Choice.{rest, rest-next, rest-none}
use Rattle.choosing.proofs.longest_ago.Invariants.{w}
use Rattle.choosing.proofs.longest_ago.Goals as goal
use Rattle.choosing.proofs.longest_ago.Goals.{After-waits_at}

-- the place is a grid's
pub waits_at-requires : goal.waits_at-requires
waits_at-requires c =
    let o = c.args.o in
    let k = c.loop-place.place-index in
    let within : k < o.len = omega (arith, c.loop-place-test.true, ap length c.listed-place-items.ensures, length-places o) in
    let e : c.from-p.result ≡ get_or o.places k 0 =
    c.from-p.ensures ∙ ap (λ (l : List ℕ). get_or l k 0) c.listed-place-items.ensures ∙ listed_at 0 o.len o.places k within in
    (c.requires.laid, omega (arith, c.requires.below k within))

-- the order record from k on, by whether something is pending there
by : (c : After-waits_at) (t : Bool) → c.waits_at.result ≡ t
    → let places = c.listed-place-items.result.now in
    let v = w c.args.g c.args.status.now in
    first_waiting v places ≡ cond t (Some (get_or places c.loop-place.place-index 0)) (rest v places (c.loop-place.place-index + 1))
by c t e =
    let v = w c.args.g c.args.status.now in
    c.loop-place.invariant
    ∙ rest-next v c.listed-place-items.result.now c.loop-place.place-index c.loop-place-test.true t (ap v (sym c.from-p.ensures) ∙ sym c.waits_at.ensures ∙ e)

pub returns-then-waits_at : goal.returns-then-waits_at
returns-then-waits_at c =
    let v = w c.args.g c.args.status.now in
    ap Some c.from-p.ensures ∙ sym (by (goal.at.returns-then-waits_at c).After-waits_at true c.if-waits_at.true) ∙ ap (first_waiting v) c.listed-place-items.ensures

pub loop-place-preserved : goal.loop-place-preserved
loop-place-preserved c = by (goal.at.loop-place-preserved c).After-waits_at false c.if-waits_at.false

pub returns : goal.returns
returns c =
    let v = w c.args.g c.args.status.now in
    sym (c.loop-place.invariant ∙ rest-none v c.listed-place-items.result.now c.loop-place.place-index c.loop-place-test.false)
    ∙ ap (first_waiting v) c.listed-place-items.ensures
