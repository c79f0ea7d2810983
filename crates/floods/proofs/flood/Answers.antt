-- `flood`: whatever the labels were at the call, if the loop began in a state of their flood, it is in one now.
use Prim.Native.Nat.{ℕ, ◌-◌, ◌≤◌, ◌<◌}
use mathlib.Core.Path.{◌≡◌, refl, sym, subst}
use native.Mathlib.Omega.{arith}
use lib.IntN.{pos}
use lib.ListN.{length, get_or}
use Rattle.pushing.specs.Push.{Fill, fill_of, push, push_all}
use Rattle.pushing.proofs.Pushes.{label-lt}
use Rattle.floods.specs.Flood.{shifted, spanned, Pushable}
use Rattle.floods.proofs.Spreading.{Spread, spread-start, spread-as, spread-turn, spread-ended, turn_in, turn-entry, turn_low, turn-pushable}
use Rattle.floods.proofs.flood.Goals as goal
use Rattle.floods.proofs.flood.Goals.{At-loop-at, In-loop-at}

pub push-end-requires : goal.push-end-requires
push-end-requires c =
    (label-lt c.args.label.now c.args.seed c.requires.2.seeded, c.requires.2.ready)

pub loop-at-init : goal.loop-at-init
loop-at-init c = λ B e F T. T

-- what the flood starts from
abbrev Before : At-loop-at → Fill
Before c = let a = c.args in fill_of a.label.now a.work.now a.start

abbrev Now : At-loop-at → Fill
Now c = fill_of c.loop-at.label c.loop-at.work c.loop-at.end

-- the flood's state at the loop's head
state : (c : At-loop-at)
    → let a = c.args in Spread a.patch a.offsets.now a.back (Before c) a.seed (Now c) c.loop-at.at
state c =
    let a = c.args in
    c.loop-at.invariant (Before c) refl c.requires.2
    (subst (λ (x : Fill). Spread a.patch a.offsets.now a.back (Before c) a.seed x a.start) {x = push a.seed (Before c)}
    (sym c.push-end.ensures)
    (spread-start a.patch a.offsets.now a.back (Before c) a.seed c.requires.2))

pub entry-v-requires : goal.entry-v-requires
entry-v-requires c =
    let a = c.args in
    let l = (goal.at.entry-v-requires c).At-loop-at in (
      turn_in a.patch a.offsets.now a.back (Before l) a.seed c.requires.2 (Now l) c.loop-at.at (state l) c.loop-at-test.true,
      turn-entry a.patch a.offsets.now a.back (Before l) a.seed c.requires.2 (Now l) c.loop-at.at (state l) c.loop-at-test.true,
    )

-- the turn's neighbours are in the grid
turn : (c : In-loop-at) (v : ℕ) → get_or c.loop-at.work c.loop-at.at (pos 0) ≡ pos v
    → let a = c.args in
    (a.back ≤ v) × Pushable a.patch a.offsets.now (v - a.back) (fill_of c.loop-at.label c.loop-at.work c.loop-at.end)
turn c v e =
    let a = c.args in
    let l = (goal.at.entry-v-requires c).At-loop-at in (
      turn_low a.patch a.offsets.now a.back (Before l) a.seed c.requires.2 (Now l) c.loop-at.at (state l) c.loop-at-test.true v e,
      turn-pushable a.patch a.offsets.now a.back (Before l) a.seed c.requires.2 (Now l) c.loop-at.at (state l) c.loop-at-test.true v e
          c.requires.0 c.requires.1,
    )

pub overflow_sub-v : goal.overflow_sub-v
overflow_sub-v c = (turn (goal.at.overflow_sub-v c).In-loop-at c.entry-v.result c.entry-v.ensures).0

pub push_each-end-requires : goal.push_each-end-requires
push_each-end-requires c = (turn (goal.at.push_each-end-requires c).In-loop-at c.entry-v.result c.entry-v.ensures).1

-- the work list goes on at the loop's head
room : (c : In-loop-at) → c.loop-at.at < length c.args.label.now
room c =
    let a = c.args in
    let l = (goal.at.entry-v-requires c).At-loop-at in
    let h = turn_in a.patch a.offsets.now a.back (Before l) a.seed c.requires.2 (Now l) c.loop-at.at (state l) c.loop-at-test.true in
    let G = (state l).good in
    omega (arith, G.ready.same, G.len)

pub overflow_add-at : goal.overflow_add-at
overflow_add-at c = omega (arith, room (goal.at.overflow_add-at c).In-loop-at, c.requires.2.ready.small)

pub loop-at-smaller : goal.loop-at-smaller
loop-at-smaller c = omega (arith, room (goal.at.loop-at-smaller c).In-loop-at)

pub loop-at-preserved : goal.loop-at-preserved
loop-at-preserved c =
    λ B e F T.
    let a = c.args in
    let now = c.loop-at.invariant B e F T in
    let f = fill_of c.loop-at.label c.loop-at.work c.loop-at.end in
    let g = push_all (shifted (c.entry-v.result - a.back) (spanned a.patch a.offsets.now)) f in
    spread-as a.patch a.offsets.now a.back B a.seed _ _ (sym {b = g} c.push_each-end.ensures) (omega arith)
    (spread-turn a.patch a.offsets.now a.back B a.seed F f c.loop-at.at now c.loop-at-test.true
    c.entry-v.result c.entry-v.ensures)

pub shape_of-label : goal.shape_of-label
shape_of-label c = (state (goal.at.shape_of-label c).At-loop-at).good.len

pub shape_of-work : goal.shape_of-work
shape_of-work c =
    let G = (state (goal.at.shape_of-work c).At-loop-at).good in
    omega (arith, G.ready.same, G.len, c.requires.2.ready.same)

pub returns : goal.returns
returns c =
    let a = c.args in
    let l = (goal.at.returns c).At-loop-at in
    spread-ended a.patch a.offsets.now a.back (Before l) a.seed (Now l) c.loop-at.at c.loop-at-test.false (state l)
