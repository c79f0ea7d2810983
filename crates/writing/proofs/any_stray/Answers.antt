-- `writing::any_stray` meets its contract: of values of two bytes none is.
use mathlib.Core.Path.{ap, sym, ◌∙◌}
use Rattle.words.specs.Widths.{bytes_in}
use Rattle.format.proofs.Holding.{narrow-known}
use Rattle.writing.proofs.any_stray.Goals as goal

pub returns-in-Two : goal.returns-in-Two
returns-in-Two c = sym (narrow-known _ (sym c.requires ∙ ap bytes_in c.in-Two.is))
