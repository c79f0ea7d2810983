-- `layers::record_length` meets its contract.
use mathlib.Core.Path.{ap, ◌∙◌}
use Rattle.format.specs.Layer.{layer_length}
use Rattle.layers.proofs.record_length.Goals as goal

pub returns : goal.returns
returns c =
    let l = c.layer_length.ensures in
    (l.0 ∙ ap (layer_length c.args.sides) c.width_at-width.ensures, l.1)
