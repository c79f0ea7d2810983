-- `capi::machine::wattlerugby_finish` meets its contract: the struct is the reply written out.
use borrow.Author.Rules.{rules}
use Rattle.capi.proofs.machine.wattlerugby_finish.Goals as goal

pub returns : goal.returns
returns c =
    rw (c.finish_answer.ensures, ← c.from-r.ensures, ← c.finish.ensures)
