-- `marks::stray` meets its contract.
use Rattle.marks.proofs.Lent.{joined-stray}
use Rattle.marks.proofs.stray.Goals as goal

pub returns : goal.returns
returns c = joined-stray _ _ c.joined.ensures
