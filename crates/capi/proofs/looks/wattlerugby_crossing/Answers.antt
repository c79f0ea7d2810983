-- `capi::looks::wattlerugby_crossing` meets its contract: the struct is the reply written out, and the point as near as the rule says.
use mathlib.Core.Path.{subst}
use Rattle.rules.specs.declared.Record.{Record}
use Rattle.surface.specs.Surface.{BoundedAt}
use borrow.Author.Rules.{rules}
use Rattle.capi.proofs.looks.wattlerugby_crossing.Goals as goal

pub returns : goal.returns
returns c =
    let a = c.args in
    record {
      answer = rw (c.from.ensures, ← c.from-r.ensures, ← c.crossing.ensures.status_value);
      near = λ o e.
          subst (λ (x : Record). BoundedAt x.sides a.dist.now a.index a.axis o) c.from-r.ensures
          (c.crossing.ensures.bounded_at o (rw (← c.from-r.ensures, ← c.crossing.ensures.status_value) at e));
    }
