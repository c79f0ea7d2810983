-- `front::insert` meets its contract.
use Prim.Native.Nat.{◌-◌}
use lib.ListN.{length}
use Rattle.front.proofs.Inserting.{Moving}
use Rattle.front.proofs.insert.Given as goal

abbrev pub invariant-loop-front : goal.invariant-loop-front
invariant-loop-front l = Moving l.initial.front l.front l.head l.w l.p

abbrev pub decreases-loop-front : goal.decreases-loop-front
decreases-loop-front l = length l.initial.front - l.p
