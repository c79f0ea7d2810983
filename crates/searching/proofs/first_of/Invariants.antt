-- `searching::first_of` meets its contract: the loop has skipped the voxels before i.
use Rattle.rules.specs.Marks.{marked}
use Rattle.searching.specs.Argmax.{key_at, rank}
use Rattle.searching.proofs.Argmax.{Skipped}
use Rattle.searching.proofs.first_of.Given as goal

abbrev pub invariant-loop-i : goal.invariant-loop-i
invariant-loop-i l = Skipped (key_at (marked l.marks) l.dist l.status l.a l.l) l.held.first l.i (rank l.held.height)
