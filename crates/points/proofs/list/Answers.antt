-- `points::list` meets its contract. The loop's invariant: what is left of the walk gives the whole walk's answer and buffer.
use mathlib.Core.Path.{◌≡◌, refl, sym, ap, ◌∙◌}
use mathlib.Core.Logic.{inl, inr}
use Prim.Native.Nat.{ℕ, ◌-◌, ◌*◌, ◌/◌, ◌<◌}
use native.Mathlib.Omega.{arith}
use lib.ListN.{length}
use mathlib.Core.List.{List}
use lib.Ieee.{Float}
use Rattle.std.specs.Prelude.{None, Some}
use Rattle.rules.specs.Answer.{Outcome, outcome, done}
use Rattle.points.specs.declared.Listing.{Listing}
use Rattle.points.specs.Listing.{listing}
use native.Mathlib.Numerals.{add-one}
use Rattle.points.specs.Positions.{point_on, stored}
use Rattle.points.proofs.Walking.{going_on, going_done}
use Rattle.points.proofs.list.Goals as goal
use Rattle.points.proofs.list.Goals.{Start, in-Some, in_default}

pub overflow_mul-end : goal.overflow_mul-end
overflow_mul-end c = omega (arith, c.requires.lent)

pub loop-p-init : goal.loop-p-init
loop-p-init c = let w = c.requires.within in record { within = omega (arith, c.requires.lent); same = refl; room = omega arith; rest = refl }

-- what the walk answers, by the distances' number
module _ (c : Start) where
  abbrev listed : ℕ → Outcome (List Float) Listing
  listed n = listing (point_on c.args.sides c.args.dist.now) (3 * n - c.args.position) c.args.position c.args.out.now

pub returns-then-count-room : goal.returns-then-count-room
returns-then-count-room c =
    going_done c.loop-p.invariant (inr (omega arith)) ∙ ap (listed (goal.at.returns-then-count-room c).Start) c.requires.lent

pub loop-p-preserved : goal.loop-p-preserved
unfolding stored
loop-p-preserved c =
    let room : c.loop-p.count < length c.args.out.now / 3 = omega (arith, c.loop-p.invariant.room) in
    elim c.match-point_on.branch [
      | in-Some w ↦ going_on c.loop-p.invariant (Some w.in-Some.point) _ _ (sym c.point_on.ensures ∙ w.in-Some.is) c.loop-p-test.true room
          (w.count-is ∙ add-one c.loop-p.count) (w.out-is ∙ w.store.ensures)
      | in_default w ↦ going_on c.loop-p.invariant None _ _ (sym c.point_on.ensures ∙ w.in_default.is) c.loop-p-test.true room w.count-is w.out-is
    ]

pub returns : goal.returns
returns c =
    let last : c.loop-p.p ≡ 3 * length c.args.dist.now = omega (arith, c.loop-p.invariant.within) in
    ap (λ (n : ℕ). outcome (done (record { count = c.loop-p.count; next = n })) c.loop-p.out) (sym last)
    ∙ going_done c.loop-p.invariant (inl c.loop-p-test.false)
    ∙ ap (listed (goal.at.returns c).Start) c.requires.lent
