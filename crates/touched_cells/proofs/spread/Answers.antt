-- `touched_cells::spread` meets its contract.
use Rattle.touched_cells.proofs.Spreading.{touched-spread}
use Rattle.touched_cells.proofs.spread.Goals as goal

pub returns : goal.returns
returns c = touched-spread c.args.code
