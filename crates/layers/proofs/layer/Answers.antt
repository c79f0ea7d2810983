-- `layers::layer` meets its contract: the answer is that of the part.
use mathlib.Core.Path.{ap, ◌∙◌}
use Rattle.format.specs.Layer.{Part}
use Rattle.layers.proofs.Reading.{refused_on}
use Rattle.layers.proofs.layer.Goals as goal

pub returns-in_err-part : goal.returns-in_err-part
returns-in_err-part c = refused_on _ _ c.from_residual.ensures.1 ∙ ap (λ (p : Part). p.answer) c.in_err-part.ensures

pub returns : goal.returns
returns c = ap (λ (p : Part). p.answer) c.in_ok-part.ensures
