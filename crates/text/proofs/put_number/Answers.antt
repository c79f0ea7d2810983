-- `text::put_number` meets its contract.
use borrow.Author.Rules.{rules}
use Rattle.text.proofs.Digits.{digits-start, digits-next, digits-done}
use Rattle.text.proofs.put_number.Goals as goal

pub loop-rest-init : goal.loop-rest-init
loop-rest-init c = digits-start _ _ _ (search rules)

pub loop-rest-preserved : goal.loop-rest-preserved
loop-rest-preserved c =
    digits-next _ _ _ _ _ _ (search rules) c.loop-rest.invariant _ _ (search rules) c.put-start.auto.out c.put-start.ensures

pub returns : goal.returns
returns c =
    digits-done _ _ _ _ _ _ (search rules) c.loop-rest.invariant _ _ (search rules) c.put.ensures
