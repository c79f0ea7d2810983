-- `order_record::stands_from` meets its contract: `any` over what stands from k on.
use mathlib.Core.Path.{◌≡◌, ap, ◌∙◌}
use mathlib.Core.List.{List}
use native.Mathlib.Omega.{arith}
use Prim.Native.Nat.{ℕ, ◌-◌, ◌≤◌}
use lib.Dec.{eqb}
use lib.ListN.{length, take, drop}
use borrow.Author.Rules.{rules}
use borrow.Author.Tests.{tests}
use Rattle.std.specs.List.{list_any}
use Rattle.std.proofs.lemmas.Iterator.{YieldsList-from_slice}
use Rattle.std.proofs.lemmas.Iterator.Search.{any_from_yields_List}
use Rattle.rules.specs.Grid.{is_in}
use Rattle.order_record.proofs.Places.{length-places, from-on, any-is}
use Rattle.order_record.proofs.stands_from.Goals as goal
use Rattle.order_record.proofs.stands_from.Goals.{After-listed}

within : (c : After-listed) → c.args.k ≤ length c.listed.result.now
within c = omega (arith, ap length c.listed.ensures, length-places c.args.o)

pub slice_bounds-iter-count : goal.slice_bounds-iter-count
slice_bounds-iter-count c = within c

pub slice_bounds-iter-start : goal.slice_bounds-iter-start
slice_bounds-iter-start c = let w = within c in search rules

pub returns : goal.returns
unfolding is_in
returns c =
    let a = c.args in
    let part = take (length c.listed.result.now - a.k) (drop a.k c.listed.result.now) in
    let e : c.any.result ≡ list_any (eqb a.place) part =
    any_from_yields_List (eqb a.place) _ _ _ c.any.ensures.ran (YieldsList-from_slice part cc) (λ x b q k. search (rules, tests)) in
    e ∙ any-is (eqb a.place) part ∙ ap (λ (l : List ℕ). is_in l a.place) (from-on a.k c.listed.result.now)
    ∙ ap (λ (l : List ℕ). is_in (drop a.k l) a.place) c.listed.ensures
