-- The mark of a block: 1 where it is pinned, else 0, whatever stood there.
use Rattle.std.specs.Prelude.{cond, ℕ}
use Rattle.rules.specs.declared.Sides.{Sides}
use Rattle.rules.specs.Marks.{Marked}
use Rattle.coarse.specs.Blocks.{block_marks}

abbrev pub pin_at : Sides → Marked → ℕ → ℕ → ℕ
pin_at s m j x = cond ((block_marks s m).pinned j) 1 0
