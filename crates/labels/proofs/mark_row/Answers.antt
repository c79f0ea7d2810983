-- `mark_row`: a row on the border, or the ends of any other and what lies between.
use mathlib.Core.Path.{◌≡◌}
use mathlib.Core.Bool.{true, false}
use lib.ListN.{replicate}
use native.Mathlib.Omega.{arith}
use borrow.Author.Rules.{rules}
use Rattle.std.proofs.lemmas.Bool.Decides.{nat_tests}
use Rattle.loops.proofs.Rows.{edge}
use Rattle.labels.proofs.Marking.{edge-marked, row-marked}
use Rattle.labels.proofs.mark_row.Goals as goal

pub returns-then-z-sides : goal.returns-then-z-sides
returns-then-z-sides c =
    let a = c.args in
    let e : edge a.sides a.row ≡ true = grind (arith, nat_tests) in
    let q : c.fill.new.self ≡ replicate a.sides.a 3 = search rules in
    edge-marked a.sides a.values.now a.row a.label.now c.fill.new.self (omega arith) (omega arith) e q

pub returns-else-z-sides : goal.returns-else-z-sides
returns-else-z-sides c =
    let a = c.args in
    let e : edge a.sides a.row ≡ false = grind (arith, nat_tests) in
    row-marked a.sides a.values.now a.row a.label.now c.kinds.new.label (omega arith) (omega arith) c.requires.1 e (omega arith) (omega arith) c.kinds.ensures
