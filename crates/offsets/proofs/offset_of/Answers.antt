-- `offset_of` meets its contract.
use mathlib.Core.Path.{sym, ap, ◌∙◌}
use Prim.Native.Nat.{ℕ, ◌%◌}
use Rattle.keys.specs.Key.{width}
use Rattle.offsets.proofs.Offsets.{offset-none, offset-some}
use Rattle.offsets.proofs.offset_of.Goals as goal

pub returns-then-w-eq0 : goal.returns-then-w-eq0
returns-then-w-eq0 c = sym (offset-none _ c.if-w-eq0.true)

pub returns-else-w-eq0 : goal.returns-else-w-eq0
returns-else-w-eq0 c = ap (λ (j : ℕ). j % width) c.voxel_of.ensures ∙ sym (offset-some _ c.if-w-eq0.false)
