-- `label`: below j the labels are written.
use mathlib.Core.Path.{◌≡◌, refl, ap, ◌∙◌}
use native.Mathlib.Omega.{arith}
use borrow.Author.Tests.{le-leb}
use lib.IntN.{ℤ, pos, negsuc}
use lib.Signed.{le_z}
use mir.Facts.{to_z-of_z}
use borrow.Author.Rules.{rules}
use mir.Syntax.{w32}
use mir.Val.{SFits, bool_byte}
use Rattle.rules.specs.Grid.{distance_at}
use Rattle.block_start.specs.Start.{label_of}
use Rattle.loops.proofs.InPlace.{each_none, each_more}
use Rattle.block_start.proofs.label.Goals as goal

label-is : (z : ℤ) → bool_byte (le_z (pos 0) z) ≡ label_of z
label-is (pos n) = ap bool_byte (le-leb 0 n (omega arith))
label-is (negsuc n) = refl

pub loop-j-init : goal.loop-j-init
loop-j-init c = each_none _ _ _ _ _ (omega arith)

pub loop-j-preserved : goal.loop-j-preserved
loop-j-preserved c =
    let f : SFits w32 (distance_at c.args.blocks.now c.loop-j.j) = search rules in
    each_more _ _ _ c.loop-j.j _ c.loop-j.status c.from.result (omega arith) (omega (arith, c.loop-j.invariant.len)) c.loop-j.invariant
    (c.from.ensures ∙ ap (λ (z : ℤ). bool_byte (le_z (pos 0) z)) (to_z-of_z f) ∙ label-is (distance_at c.args.blocks.now c.loop-j.j))
