-- `push` is one step of a flood.
use mathlib.Core.Path.{sym, ap, ◌∙◌}
use native.Mathlib.Omega.{arith}
use Prim.Native.Nat.{◌+◌}
use lib.IntN.{ℤ}
use lib.ListN.{set}
use mir.Syntax.{w32}
use mir.Facts.{to_z_pos}
use Rattle.pushing.specs.Push.{fill_of}
use Rattle.pushing.proofs.Pushes.{push-yes, push-no, has_room}
use Rattle.pushing.proofs.push.Goals as goal

pub bounds-work-end : goal.bounds-work-end
bounds-work-end c =
    let a = c.args in
    has_room a.j (fill_of a.label.now a.work.now a.end) c.requires.1 c.if-label-j-eq1.true

pub returns-then-label-j-eq1 : goal.returns-then-label-j-eq1
returns-then-label-j-eq1 c =
    let a = c.args in
    ap (λ (z : ℤ). fill_of (set a.label.now a.j 2) (set a.work.now a.end z) (a.end + 1))
    (to_z_pos w32 (let l = c.requires.1.small in omega arith))
    ∙ sym (push-yes a.j (fill_of a.label.now a.work.now a.end) c.if-label-j-eq1.true)

pub returns-else-label-j-eq1 : goal.returns-else-label-j-eq1
returns-else-label-j-eq1 c =
    let a = c.args in
    sym (push-no a.j (fill_of a.label.now a.work.now a.end) c.if-label-j-eq1.false)
