-- `marks::hurries` meets its contract, by whether the mark is 2.
use mathlib.Core.Path.{◌≡◌, sym}
use mathlib.Core.Bool.{false}
use native.Mathlib.Decide.{ℕ_discrete}
use lib.Dec.{eqb}
use borrow.Author.Tests.{ne_eqb}
use Rattle.rules.specs.Marks.{hurried_mark}
use Rattle.marks.proofs.hurries.Goals as goal

pub returns : goal.returns
unfolding hurried_mark
returns c =
    let mark = c.args.mark in
    elim (ℕ_discrete mark 2) [
      | yes e ↦ rw e
      | no n ↦
          let one_way : eqb mark 2 ≡ false = ne_eqb mark 2 n in
          let other_way : eqb 2 mark ≡ false = ne_eqb 2 mark (λ e. n (sym e)) in
          cc
    ]
