-- What is handed back of the caller's file.
use Rattle.std.specs.Prelude.{Result, Ok, Err, []}
use Rattle.rules.specs.declared.Refusal.{Refusal}
use Rattle.rules.specs.Refusals.{number_of}
use Rattle.rules.specs.Answer.{refused, done}
use Rattle.format.specs.Layer.{Part}
use Rattle.layers.specs.declared.LayerPart.{LayerPart}

-- where the layer is refused no bytes are
abbrev pub part_of : Result LayerPart Refusal → Part
part_of (Ok p) = record { bytes = p.values.now; answer = done p.span }
part_of (Err e) = record { bytes = []; answer = refused (number_of e) }
