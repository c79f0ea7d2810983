-- `waking::may_go` meets its contract.
use mathlib.Core.Path.{ap₂, sym, ◌∙◌}
use mathlib.Core.Bool.{Bool, not, ◌||◌}
use borrow.Author.Rules.{sfits_of}
use Rattle.prelude.proofs.Signs.{held-negative}
use Rattle.rules.specs.Grid.{distance_at}
use Rattle.rules.specs.Marks.{marked}
use Rattle.waking.proofs.Waking.{may-go-is}
use mir.Syntax.{w32}
use Rattle.waking.proofs.may_go.Goals as goal

pub returns : goal.returns
returns c =
    let a = c.args in
    ap₂ (λ (t p : Bool). not (t || p)) (held-negative {z = distance_at a.dist.now a.j} (sfits_of {w = w32} c.d-1.given)) c.pinned-p.ensures
    ∙ sym (may-go-is (marked a.marks.now) a.dist.now a.j)
