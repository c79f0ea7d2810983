-- `surface::moved` meets its contract.
use mathlib.Core.Path.{sym, ap, ap₂, ◌∙◌}
use mathlib.Core.Bool.{Bool}
use lib.Ieee.{Float, binary64, add, sub}
use Rattle.surface.specs.Surface.{moved}
use Rattle.surface.proofs.moved.Goals as goal

pub returns-then-higher : goal.returns-then-higher
unfolding moved
returns-then-higher c =
    let a = c.args in
    ap₂ (λ (x t : Float). add binary64 x t) c.whole-from.ensures c.share-t.ensures
    ∙ ap (λ (b : Bool). moved b a.x a.p a.q) (sym c.if-higher.true)

pub returns-else-higher : goal.returns-else-higher
unfolding moved
returns-else-higher c =
    let a = c.args in
    ap₂ (λ (x t : Float). sub binary64 x t) c.whole-from.ensures c.share-t.ensures
    ∙ ap (λ (b : Bool). moved b a.x a.p a.q) (sym c.if-higher.false)
