-- `capi::looks::wattlerugby_judge` meets its contract: the struct is the reply written out.
use borrow.Author.Rules.{rules}
use Rattle.capi.proofs.looks.wattlerugby_judge.Goals as goal

pub returns : goal.returns
returns c =
    rw (c.from.ensures, ← c.from-r.ensures, ← c.judge.ensures)
