-- `fill_with`: the blocks of the rows before this one have their values.
use Rattle.std.proofs.Common.{ℕ, ◌*◌, ◌<◌, get_or}
use Rattle.blocks.specs.Work.{corner}
use Rattle.blocks.proofs.fill_with.Given as goal

abbrev pub invariant-loop-row : goal.invariant-loop-row
invariant-loop-row g l = (j : ℕ) (d : _) → j < l.h.a * l.row → goal.F-post g l.value (corner l.s j) (get_or l.blocks j d)
