-- `text::put_word` meets its contract: the bytes so far, the last one first.
use Prim.Native.Nat.{◌-◌, ◌≤◌}
use lib.ListN.{length}
use Rattle.text.proofs.Writing.{Spelt}
use Rattle.text.proofs.put_word.Given as goal

abbrev pub invariant-loop-byte : goal.invariant-loop-byte
invariant-loop-byte l =
    (length l.yielded ≤ length l.word) × Spelt l.word l.at l.initial.out l.out l.start (length l.word - length l.yielded)
