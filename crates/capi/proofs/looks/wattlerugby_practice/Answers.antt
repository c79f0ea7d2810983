-- `capi::looks::wattlerugby_practice` meets its contract: the struct is the reply written out.
use borrow.Author.Rules.{rules}
use Rattle.capi.proofs.looks.wattlerugby_practice.Goals as goal

pub returns : goal.returns
returns c = rw (c.from.ensures, ← c.practice.ensures)
