-- `order_record::unfit` meets its contract: what is wrong is wrong from k on.
use mathlib.Core.Path.{ap, sym, ◌∙◌}
use mathlib.Core.Bool.{true, false}
use mathlib.Core.List.{List}
use Prim.Native.Nat.{ℕ, ◌+◌, ◌-◌}
use lib.Dec.{leb}
use lib.ListN.{length, get_or, take, drop}
use borrow.Author.Tests.{le-leb, lt-leb}
use Rattle.rules.specs.Grid.{is_in}
use Rattle.order_record.proofs.Places.{from-on, contains-is, wrong-past, wrong-again, wrong-later, wrong-none, unfit-long, unfit-wrong}
use Rattle.order_record.proofs.unfit.Goals as goal
use Rattle.order_record.proofs.unfit.Goals.{then-count-from-via-then-count-from, then-count-from-via-else-count-from+then-contains}

pub returns-then-count-o : goal.returns-then-count-o
returns-then-count-o c = let a = c.args in unfit-long a.o a.count c.if-count-o.true

pub returns-then-count-from : goal.returns-then-count-from
returns-then-count-from c =
    let a = c.args in
    let all = c.listed-all.result.now in
    let k = c.loop-k.k in
    let rest = drop (k + 1) all in
    unfit-wrong a.o a.count c.if-count-o.false all c.listed-all.ensures true (
    c.loop-k.invariant
    ∙ elim c.then-count-from.branch [
      | then-count-from-via-then-count-from w ↦ wrong-past a.count all k c.loop-k-test.true (ap (leb a.count) (sym c.from.ensures) ∙ le-leb _ _ w.if-count-from.true)
      | then-count-from-via-else-count-from+then-contains w ↦ wrong-again a.count all k c.loop-k-test.true (
          ap (λ (l : List ℕ). is_in l (get_or all k 0)) (sym (from-on (k + 1) all))
          ∙ sym (contains-is (get_or all k 0) (take (length all - (k + 1)) rest)) ∙ sym w.contains.ensures.value ∙ w.if-contains.true)
    ])

pub loop-k-preserved : goal.loop-k-preserved
loop-k-preserved c =
    let a = c.args in
    let all = c.listed-all.result.now in
    let k = c.loop-k.k in
    let rest = drop (k + 1) all in
    c.loop-k.invariant ∙ wrong-later a.count all k c.loop-k-test.true (ap (leb a.count) (sym c.from.ensures) ∙ lt-leb _ _ c.if-count-from.false) (
    ap (λ (l : List ℕ). is_in l (get_or all k 0)) (sym (from-on (k + 1) all))
    ∙ sym (contains-is (get_or all k 0) (take (length all - (k + 1)) rest)) ∙ sym c.contains.ensures.value ∙ c.if-contains.false)

pub returns : goal.returns
returns c =
    let a = c.args in
    let all = c.listed-all.result.now in
    unfit-wrong a.o a.count c.if-count-o.false all c.listed-all.ensures false (c.loop-k.invariant ∙ wrong-none a.count all c.loop-k.k c.loop-k-test.false)
