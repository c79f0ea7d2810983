-- `capi::looks::wattlerugby_read_layer_6` meets its contract: the struct is made from the reply.
use borrow.Author.Rules.{rules}
use Rattle.capi.proofs.looks.wattlerugby_read_layer_6.Goals as goal

pub returns : goal.returns
returns c = rw (c.from.ensures, c.layer.ensures)
