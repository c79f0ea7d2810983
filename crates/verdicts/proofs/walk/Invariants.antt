-- `verdicts::walk` meets its contract: the voxels of the entries so far are gone, and those from there on decide.
use Prim.Native.Nat.{◌-◌}
use lib.ListN.{length}
use Rattle.verdicts.proofs.Walking.{Walking}
use Rattle.verdicts.proofs.walk.Given as goal

abbrev pub invariant-loop-tally : goal.invariant-loop-tally
invariant-loop-tally l = Walking l.s l.dist l.allowed l.list l.initial.status l.status l.tally

abbrev pub decreases-loop-tally : goal.decreases-loop-tally
decreases-loop-tally l = length l.list - l.tally.removed
