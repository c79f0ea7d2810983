-- `capi::machine::wattlerugby_open_9` meets its contract: the struct is the reply written out.
use borrow.Author.Rules.{rules}
use Rattle.capi.proofs.machine.wattlerugby_open_9.Goals as goal

pub returns : goal.returns
returns c =
    rw (c.open_answer.ensures, ← c.from-r.ensures, ← c.open_next.ensures)
