-- `office_replies::grids_in` meets its contract: each record is read in.
use native.Mathlib.Omega.{arith}
use borrow.Author.Rules.{rules}
use Rattle.prelude.proofs.Filling.{filling-start, filling-next, filling-done}
use Rattle.office_replies.proofs.grids_in.Goals as goal

pub loop-p-init : goal.loop-p-init
loop-p-init c = filling-start _ _ _

pub loop-p-preserved : goal.loop-p-preserved
loop-p-preserved c = filling-next _ _ 16 _ _ _ c.loop-p.invariant (omega arith) (search rules)

pub returns : goal.returns
returns c =
    let all = filling-done _ _ 16 _ _ c.loop-p.invariant (omega arith) in
    λ i. record { count = c.args.c.count; records = all i }
