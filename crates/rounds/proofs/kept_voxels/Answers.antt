-- `rounds::kept_voxels` meets its contract.
use Prim.Native.Nat.{◌-◌}
use native.Mathlib.Omega.{arith}
use lib.ListN.{length}
use borrow.Author.Rules.{rules}
use Rattle.rules.specs.Status.{is_kept}
use Rattle.rounds.proofs.Counting.{Counting, counting-start, counting-next, counting-done}
use Rattle.rounds.proofs.kept_voxels.Goals as goal

pub loop-s-init : goal.loop-s-init
loop-s-init c = counting-start _

pub loop-s-preserved : goal.loop-s-preserved
unfolding is_kept
loop-s-preserved c =
    let bit = c.kept_bit-kept.ensures in
    counting-next _ _ _ _ (search rules) (omega (arith, bit.0)) (omega (arith, bit.1)) c.loop-s.invariant

pub returns : goal.returns
returns c = counting-done _ _ _ (search rules) c.loop-s.invariant
