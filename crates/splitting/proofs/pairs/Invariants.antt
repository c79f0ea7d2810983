-- `pairs`: the voxels of the blocks before b are done.
use Prim.Native.Nat.{◌*◌}
use Rattle.loops.specs.InPlace.{Each}
use Rattle.splitting.specs.Split.{pair_byte}
use Rattle.splitting.proofs.pairs.Given as goal

abbrev pub invariant-loop-b : goal.invariant-loop-b
invariant-loop-b l = Each 0 (λ k d. pair_byte l.dist l.blocks l.own l.beside l.above k) 0 (2 * l.b) l.initial.row l.row
