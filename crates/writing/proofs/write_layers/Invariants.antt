-- `writing::write_layers` meets its contract.
use Rattle.writing.proofs.Layers.{Laid}
use Rattle.words.specs.Widths.{bytes_in}
use Rattle.writing.proofs.write_layers.Given as goal

abbrev pub invariant-loop-z : goal.invariant-loop-z
invariant-loop-z l = Laid l.fn.sides (bytes_in l.width) l.values l.initial.file l.file l.start l.z
