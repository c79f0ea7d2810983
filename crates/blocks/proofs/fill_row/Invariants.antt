-- `fill_row`: the blocks before this one have their values.
use Rattle.std.proofs.Common.{ℕ, ◌+◌, ◌*◌, ◌<◌, get_or}
use Rattle.blocks.proofs.fill_row.Given as goal

abbrev pub invariant-loop-x : goal.invariant-loop-x
invariant-loop-x g l = (k : ℕ) (d : _) → k < l.x → goal.F-post g l.value (l.from + 2 * k) (get_or l.row k d)
