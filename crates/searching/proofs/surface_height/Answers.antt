-- `searching::surface_height` meets its contract.
use mathlib.Core.Path.{ap, ◌∙◌}
use borrow.Author.Rules.{rules, sfits_of}
use lib.IntN.{ℤ}
use mir.Facts.{to_z-of_z}
use Rattle.rules.specs.Grid.{distance_at}
use Rattle.searching.specs.Argmax.{height_of, surface_height}
use mir.Syntax.{w32}
use mir.Val.{SFits}
use Rattle.searching.proofs.surface_height.Goals as goal

pub returns : goal.returns
unfolding surface_height
returns c =
    let a = c.args in
    to_z-of_z (sfits_of {w = w32} c.height.type_inv) ∙ c.height.ensures
    ∙ ap (λ (z : ℤ). height_of z c.on_surface.result) (to_z-of_z (let f : SFits w32 (distance_at a.dist.now a.i) = search rules in f))
    ∙ ap (height_of (distance_at a.dist.now a.i)) c.on_surface.ensures
