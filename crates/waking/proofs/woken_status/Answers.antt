-- `waking::woken_status` meets its contract.
use mathlib.Core.Bool.{Bool, cond, ◌||◌}
use mathlib.Core.Path.{◌≡◌, sym, ap, ◌∙◌}
use lib.IntN.{ℤ, pos}
use lib.Signed.{lt_z}
use mir.Syntax.{w32}
use mir.Val.{SFits, to_z, of_z}
use Rattle.rules.specs.Grid.{is_negative}
use Rattle.prelude.proofs.Signs.{held-negative}
use Rattle.rules.specs.Status.{woken}
use Rattle.waking.specs.Waking.{woken_if}
use Rattle.waking.proofs.woken_status.Goals as goal

by-machine : (d : ℤ) (pinned : Bool) → SFits w32 d → (is_negative d || pinned) ≡ (lt_z (to_z w32 (of_z w32 d)) (pos 0) || pinned)
by-machine d pinned f = ap (λ (t : Bool). t || pinned) (sym (held-negative f))

pub returns-then-d-pinned : goal.returns-then-d-pinned
unfolding woken_if
returns-then-d-pinned c =
    sym (ap (λ (t : Bool). cond t c.args.x (woken c.args.x)) (by-machine c.args.d c.args.pinned c.ranges.d ∙ c.if-d-pinned.true))

pub returns-else-d-pinned : goal.returns-else-d-pinned
unfolding woken_if
returns-else-d-pinned c =
    c.woken.ensures
    ∙ sym (ap (λ (t : Bool). cond t c.args.x (woken c.args.x)) (by-machine c.args.d c.args.pinned c.ranges.d ∙ c.if-d-pinned.false))
