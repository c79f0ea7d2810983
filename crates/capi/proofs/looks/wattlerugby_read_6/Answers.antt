-- `capi::looks::wattlerugby_read_6` meets its contract: the struct is the reply written out.
use borrow.Author.Rules.{rules}
use Rattle.capi.proofs.looks.wattlerugby_read_6.Goals as goal

pub returns : goal.returns
returns c = rw (c.from.ensures, ← c.read.ensures)
