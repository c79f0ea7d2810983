-- `byte_at`: bit 0 of three bytes joined.
use mathlib.Core.Path.{◌≡◌, refl, ◌∙◌}
use mathlib.Core.Bool.{not}
use lib.IntN.{ℤ}
use mir.Syntax.{w32}
use mir.Val.{SFits, to_z, of_z}
use mir.Facts.{to_z-of_z}
use borrow.Author.Rules.{rules}
use Rattle.rules.specs.Grid.{distance_at, is_negative}
use Rattle.rules.specs.Status.{status_of, is_kept}
use Rattle.rules.specs.Machine.{is_inside}
use Rattle.status.proofs.Bytes.{kept_and}
use Rattle.splitting.specs.Split.{byte_by}
use Rattle.splitting.proofs.byte_at.Goals as goal

pub returns : goal.returns
unfolding is_kept is_inside
returns c =
    let a = c.args in
    let at = status_of a.blocks.now in
    let w : ℤ = distance_at a.dist.now a.i in
    let e : to_z w32 (of_z w32 w) ≡ w = to_z-of_z (let f : SFits w32 (distance_at a.dist.now a.i) = search rules in f) in
    let near = kept_and (at a.z) _ (kept_and (at a.y) (at a.x) refl) in
    c.byte.ensures ∙ (λ i. byte_by (is_kept a.blocks.now a.own) (not (near i)) (is_negative (e i)))
