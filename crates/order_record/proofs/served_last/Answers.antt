-- `order_record::served_last` meets its contract: the places that are not this one, in their order, and then it.
use mathlib.Core.Path.{refl, ap, ◌∙◌}
use mathlib.Core.List.{List}
use Prim.Native.Nat.{ℕ, ◌≤◌, ◌<◌}
use native.Mathlib.Omega.{arith}
use lib.ListN.{length}
use borrow.Author.Rules.{rules}
use Rattle.office.specs.Order.{others, served_last}
use Rattle.office.specs.Structs.{packed}
use Rattle.order_record.proofs.Places.{length-places, shifting-start, shifting-out, shifting-on, shifted-few, shifted-is}
use Rattle.order_record.proofs.served_last.Goals as goal
use Rattle.order_record.proofs.served_last.Goals.{After-loop-other, then-other-place, else-other-place}

pub loop-other-init : goal.loop-other-init
loop-other-init c = shifting-start c.listed-other-items.result.now c.args.place

-- there is room for another one
pub bounds-after-len : goal.bounds-after-len
bounds-after-len c =
    omega (arith, c.loop-other.invariant.few, ap length c.listed-other-items.ensures, length-places c.args.o)

pub loop-other-preserved : goal.loop-other-preserved
loop-other-preserved c =
    let few : length c.listed-other-items.result.now ≤ 16 = omega (arith, ap length c.listed-other-items.ensures, length-places c.args.o) in
    elim c.if-other-place.branch [
      | then-other-place w ↦ rw (w.after-is, w.len-is) (shifting-on _ c.args.place _ _ _ _ c.loop-other.invariant c.loop-other-test.true refl few
          w.if-other-place.true)
      | else-other-place w ↦ rw (w.after-is, w.len-is) (shifting-out _ c.args.place _ _ _ _ c.loop-other.invariant c.loop-other-test.true refl
          w.if-other-place.false)
    ]

-- room for the place
others-few : (c : After-loop-other) → length (others c.args.place c.listed-other-items.result.now) < 16
others-few c = omega (arith, ap (λ (l : List ℕ). length (others c.args.place l)) c.listed-other-items.ensures, c.requires.1)

pub bounds-after-len-2 : goal.bounds-after-len-2
bounds-after-len-2 c =
    shifted-few _ c.args.place _ _ _ c.loop-other.invariant c.loop-other-test.false (others-few (goal.at.bounds-after-len-2 c).After-loop-other)

pub overflow_add-result : goal.overflow_add-result
overflow_add-result c =
    let h = shifted-few _ c.args.place _ _ _ c.loop-other.invariant c.loop-other-test.false (others-few (goal.at.overflow_add-result c).After-loop-other) in
    search rules

pub returns : goal.returns
returns c =
    shifted-is _ c.args.place _ _ _ c.loop-other.invariant c.loop-other-test.false (others-few (goal.at.returns c).After-loop-other)
    ∙ ap (λ (l : List ℕ). packed (served_last c.args.place l)) c.listed-other-items.ensures
