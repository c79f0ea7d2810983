-- `closing::close` meets its contract: the loop has closed the voxels before i.
use Rattle.closing.proofs.Closing.{Closing}
use Rattle.closing.proofs.close.Given as goal

abbrev pub invariant-loop-i : goal.invariant-loop-i
invariant-loop-i l = Closing l.initial.dist l.status l.dist l.i
