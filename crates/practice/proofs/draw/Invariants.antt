-- `draw`: the values below i stand, and s has advanced for each of them.
use Rattle.std.proofs.Common.{◌≡◌, length, pos}
use Rattle.prelude.proofs.Filling.{Filling}
use Rattle.practice.specs.Practice.{s_after}
use Rattle.practice.specs.Work.{drawn_at}
use Rattle.practice.proofs.draw.Given as goal

abbrev pub invariant-loop-v : goal.invariant-loop-v
invariant-loop-v l = (Filling (drawn_at l.seed) (pos 0) (length l.initial.values) l.values l.v-index) × (l.s ≡ s_after l.seed l.v-index)
