-- `gridfile::read` meets its contract.
use Rattle.format.specs.File.{read}
use Rattle.gridfile.proofs.read.Goals as goal

pub returns : goal.returns
unfolding read
returns c = c.read_up_to.ensures
