-- `searching::height_at` meets its contract.
use mathlib.Core.Bool.{Bool, not, ◌&&◌}
use mathlib.Core.Path.{ap, ap₂, ◌∙◌}
use borrow.Author.Rules.{rules, sfits_of}
use lib.IntN.{ℤ}
use mir.Facts.{to_z-of_z}
use Rattle.rules.specs.Grid.{distance_at}
use Rattle.rules.specs.Marks.{marked}
use Rattle.searching.specs.Argmax.{height_of, shown_at, height_at}
use mir.Syntax.{w32}
use mir.Val.{SFits}
use Rattle.searching.proofs.height_at.Goals as goal

pub returns : goal.returns
unfolding height_at shown_at marked
returns c =
    let a = c.args in
    to_z-of_z (sfits_of {w = w32} c.height.type_inv) ∙ c.height.ensures
    ∙ ap (λ (z : ℤ). height_of z (c.on_surface.result && not c.pins.result)) (to_z-of_z (let f : SFits w32 (distance_at a.dist.now a.i) = search rules in f))
    ∙ ap₂ (λ (t u : Bool). height_of (distance_at a.dist.now a.i) (t && not u)) c.on_surface.ensures c.pins.ensures
