-- `split`: the rows before this one are done.
use Prim.Native.Nat.{◌*◌}
use Rattle.loops.specs.InPlace.{Each}
use Rattle.coarse.specs.Blocks.{split_body}
use Rattle.splitting.specs.Split.{byte_of}
use Rattle.splitting.proofs.split.Given as goal

abbrev pub invariant-loop-row : goal.invariant-loop-row
invariant-loop-row l = Each 0 (λ k d. byte_of l.s l.dist (split_body l.s l.blocks) k) 0 (l.s.a * l.row) l.initial.status l.status
