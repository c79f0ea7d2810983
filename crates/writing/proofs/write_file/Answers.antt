-- `writing::write_file` meets its contract.
use mathlib.Core.Path.{◌≡◌, refl, ap₂, ◌∙◌}
use mathlib.Core.List.{List, ◌++◌}
use Prim.Native.Nat.{ℕ, ◌*◌}
use lib.ListN.{take, drop}
use lib.IntN.{ℤ}
use borrow.Author.Rules.{rules}
use Rattle.rules.specs.declared.Sides.{Sides}
use Rattle.format.specs.Layer.{layer_length}
use Rattle.format.specs.File.{header_length}
use Rattle.format.specs.Written.{header_form, width_for, layers_form, written_form, written_length}
use Rattle.file_records.proofs.Laying.{lay-on}
use Rattle.writing.proofs.write_file.Goals as goal

pub write_layers-requires : goal.write_layers-requires
write_layers-requires c =
    let p = c.requires in
    (record { fits = p.0.fits; long = p.0.long; known = p.0.known; room = search rules }, p.1)

-- the header, and then the records behind it
both :
    (s : Sides) (T width : ℕ) (values : List ℤ) (lent between after : List ℕ)
    → width ≡ width_for values
    → between ≡ header_form s T ++ drop header_length lent
    → after ≡ (take header_length between ++ layers_form s width values s.c) ++ drop (written_length s values) between
    → after ≡ written_form s T values ++ drop (written_length s values) lent
both s T width values lent between after w e f =
    f
    ∙ ap₂ (λ (b : List ℕ) (v : ℕ). (take header_length b ++ layers_form s v values s.c) ++ drop (written_length s values) b) e w
    ∙ lay-on (header_form s T) (layers_form s (width_for values) values s.c) lent header_length refl (s.c * layer_length s (width_for values))

pub returns : goal.returns
returns c =
    both _ _ _ _ _ _ _ c.requires.1 c.write_header.ensures c.write_layers.ensures
