-- `capi::machine::wattlerugby_carve_9` meets its contract: the struct is the reply written out.
use borrow.Author.Rules.{rules}
use Rattle.capi.proofs.machine.wattlerugby_carve_9.Goals as goal

pub returns : goal.returns
returns c =
    rw (c.carve_answer.ensures, ← c.from-r.ensures, ← c.carve.ensures)
