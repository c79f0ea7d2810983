-- `turns::allows` meets its contract.
use mathlib.Core.Path.{◌∙◌}
use Prim.Native.Nat.{◌≤◌, ◌<◌}
use native.Mathlib.Omega.{arith}
use borrow.Author.Tests.{le-ltb}
use Rattle.turns.proofs.Allowing.{too_many, as-opening, as-ordinary}
use Rattle.turns.proofs.allows.Goals as goal

pub returns-then-t-allowed : goal.returns-then-t-allowed
returns-then-t-allowed c =
    let a = c.args in
    let h : a.t.opened < a.allowed = omega (arith, c.if-t-allowed.true) in
    as-opening _ _ _ _ _ _ c.if-opens.true h _ c.can_open.ensures

pub returns-else-t-allowed : goal.returns-else-t-allowed
returns-else-t-allowed c =
    let a = c.args in
    let h : a.allowed ≤ a.t.opened = omega (arith, c.if-t-allowed.false) in
    le-ltb _ _ h ∙ too_many _ _ _ _ _ _ c.if-opens.true h

pub returns-else-opens : goal.returns-else-opens
returns-else-opens c = as-ordinary _ _ _ _ _ _ c.if-opens.false _ c.can_pass.ensures
