-- `writing::write_values` meets its contract.
use Rattle.file_records.proofs.Values.{Laid}
use Rattle.words.specs.Widths.{bytes_in}
use Rattle.file_records.proofs.write_values.Given as goal

abbrev pub invariant-loop-i : goal.invariant-loop-i
invariant-loop-i l = Laid (bytes_in l.width) l.values l.initial.bytes l.bytes l.i
