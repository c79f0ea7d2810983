-- `keys::hurry` meets its contract.
use mathlib.Core.Path.{sym, ap, ◌∙◌}
use mathlib.Core.Bool.{Bool, cond}
use Prim.Native.Nat.{ℕ}
use native.Mathlib.Omega.{arith}
use Rattle.keys.specs.Key.{hurry_of}
use Rattle.keys.proofs.hurry.Goals as goal

raise : Bool → ℕ
raise t = cond t 4294967296 0

pub returns-then-hurried : goal.returns-then-hurried
unfolding hurry_of raise
returns-then-hurried c = (sym (ap raise (sym c.hurried.ensures ∙ c.if-hurried.true)), omega arith)

pub returns-else-hurried : goal.returns-else-hurried
unfolding hurry_of raise
returns-else-hurried c = (sym (ap raise (sym c.hurried.ensures ∙ c.if-hurried.false)), omega arith)
