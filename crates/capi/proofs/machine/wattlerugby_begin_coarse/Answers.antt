-- `capi::machine::wattlerugby_begin_coarse` meets its contract: the struct is the reply written out.
use borrow.Author.Rules.{rules}
use Rattle.capi.proofs.machine.wattlerugby_begin_coarse.Goals as goal

pub returns : goal.returns
returns c = rw (c.from.ensures, ← c.begin_coarse.ensures)
