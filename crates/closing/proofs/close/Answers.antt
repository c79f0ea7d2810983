-- `closing::close` meets its contract: the loop has closed the voxels before i.
use mathlib.Core.Path.{ap, ◌∙◌}
use borrow.Author.Rules.{sfits_of, rules}
use lib.IntN.{ℤ, pos}
use mir.Facts.{to_z-of_z}
use native.Mathlib.Omega.{arith}
use Rattle.closing.specs.Closing.{closed_if}
use lib.ListN.{get_or}
use Rattle.closing.proofs.Closing.{closing-start, closing-step, closing-done}
use mir.Syntax.{w32}
use mir.Val.{SFits}
use Rattle.closing.proofs.close.Goals as goal

pub loop-i-init : goal.loop-i-init
loop-i-init c = closing-start _ _ c.requires

pub loop-i-preserved : goal.loop-i-preserved
loop-i-preserved c =
    let a = c.args in
    let d-fits : SFits w32 (get_or c.loop-i.dist c.loop-i.i (pos 0)) = search rules in
    closing-step a.dist.now a.status.now c.loop-i.dist c.loop-i.i _ c.loop-i.invariant (omega (arith, c.loop-i-test.true, c.requires))
    (to_z-of_z (sfits_of {w = w32} c.closed_value.type_inv) ∙ c.closed_value.ensures
    ∙ ap (λ (x : ℤ). closed_if x (get_or a.status.now c.loop-i.i 0)) (to_z-of_z d-fits))

pub returns : goal.returns
returns c =
    let a = c.args in
    closing-done a.dist.now a.status.now c.loop-i.dist c.loop-i.i c.loop-i.invariant (omega (arith, c.loop-i-test.false, c.requires))
