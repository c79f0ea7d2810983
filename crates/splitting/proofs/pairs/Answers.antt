-- `pairs`: the voxels of the blocks before b are done.
use mathlib.Core.Path.{◌≡◌, subst}
use Prim.Native.Nat.{ℕ, ◌*◌, ◌/◌}
use native.Mathlib.Omega.{arith}
use lib.ListN.{length}
use Rattle.loops.specs.InPlace.{Each}
use Rattle.loops.proofs.InPlace.{each_none}
use Rattle.splitting.specs.Split.{pair_byte}
use Rattle.splitting.proofs.Splitting.{pairs-more}
use Rattle.splitting.proofs.pairs.Goals as goal

pub loop-b-init : goal.loop-b-init
loop-b-init c = each_none _ _ _ _ _ (omega arith)

pub loop-b-preserved : goal.loop-b-preserved
loop-b-preserved c =
    let a = c.args in
    pairs-more a.dist.now a.blocks.now a.own a.beside a.above c.loop-b.b a.row.now c.loop-b.row
    c.byte_at.result c.byte_at-in-loop-b.result (omega (arith, c.requires.room)) c.loop-b.invariant c.byte_at.ensures c.byte_at-in-loop-b.ensures

pub returns : goal.returns
returns c =
    let a = c.args in
    subst (λ (n : ℕ). Each 0 (λ k d. pair_byte a.dist.now a.blocks.now a.own a.beside a.above k) 0 (2 * n) a.row.now c.loop-b.row)
    (let e : c.loop-b.b ≡ length a.row.now / 2 = omega arith in e) c.loop-b.invariant
