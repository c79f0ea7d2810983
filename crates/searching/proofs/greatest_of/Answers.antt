-- `greatest_of`: the greatest height before voxel i.
use native.Mathlib.Omega.{arith}
use mathlib.Core.Path.{◌≡◌, refl, subst}
use Prim.Native.Nat.{ℕ}
use mir.Syntax.{w32}
use mir.Val.{to_z}
use Rattle.searching.specs.Argmax.{rank, Greatest}
use Rattle.std.proofs.lemmas.Int.{ints, clamps}
use Rattle.searching.proofs.Argmax.{greatest-start, greatest-more}
use Rattle.searching.proofs.greatest_of.Goals as goal

pub loop-i-init : goal.loop-i-init
loop-i-init g c = λ f same. greatest-start f c.args.first 0 refl

pub loop-i-preserved : goal.loop-i-preserved
loop-i-preserved g c =
    λ f same.
    greatest-more f c.args.first c.loop-i.i _ c.height.result _ (omega arith) (c.loop-i.invariant f same)
    (same c.loop-i.i c.height.result (omega arith) (omega arith) c.height.ensures) (omega (arith, ints, clamps))

pub returns : goal.returns
returns g c =
    λ f same.
    subst (λ (n : ℕ). Greatest f c.args.first n (rank (to_z w32 c.loop-i.best-bits)))
    (let e : c.loop-i.i ≡ c.args.end = omega (arith, c.requires.order) in e) (c.loop-i.invariant f same)
