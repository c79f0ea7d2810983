-- `searching::height` meets its contract.
use mathlib.Core.Bool.{Bool, cond}
use mathlib.Core.Path.{sym, ap, ◌∙◌}
use lib.IntN.{negsuc}
use mir.Facts.{to_z-of_z}
use Rattle.searching.specs.Argmax.{height_of}
use Rattle.searching.proofs.height.Goals as goal

pub returns-then-surface : goal.returns-then-surface
unfolding height_of
returns-then-surface c = to_z-of_z c.ranges.d ∙ sym (ap (λ (t : Bool). cond t c.args.d (negsuc 0)) c.if-surface.true)

pub returns-else-surface : goal.returns-else-surface
unfolding height_of
returns-else-surface c = sym (ap (λ (t : Bool). cond t c.args.d (negsuc 0)) c.if-surface.false)
