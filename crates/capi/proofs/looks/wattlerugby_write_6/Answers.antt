-- `capi::looks::wattlerugby_write_6` meets its contract: the struct is the reply written out.
use borrow.Author.Rules.{rules}
use Rattle.capi.proofs.looks.wattlerugby_write_6.Goals as goal

pub returns : goal.returns
returns c = rw (c.from.ensures, ← c.write.ensures)
