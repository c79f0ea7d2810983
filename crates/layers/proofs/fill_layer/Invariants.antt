-- `layers::fill_layer` meets its contract.
use Prim.Native.Nat.{◌*◌}
use lib.ListN.{length}
use lib.IntN.{pos}
use Rattle.prelude.proofs.Filling.{Filling}
use Rattle.format.specs.Bytes.{value_of}
use Rattle.words.specs.Widths.{bytes_in}
use Rattle.layers.proofs.fill_layer.Given as goal

abbrev pub invariant-loop-i : goal.invariant-loop-i
invariant-loop-i l = Filling (λ k. value_of (bytes_in l.width) l.bytes (bytes_in l.width * k)) (pos 0) (length l.initial.values) l.values l.i
