-- `group_key` meets its contract: the greatest so far.
use mathlib.Core.Path.{◌≡◌}
use Prim.Native.Nat.{◌-◌}
use Rattle.rules.specs.Marks.{marked}
use Rattle.keys.specs.Key.{greatest}
use Rattle.offsets.specs.Offsets.{held_key}
use Rattle.offsets.proofs.group_key.Given as goal

abbrev pub invariant-loop-k : goal.invariant-loop-k
invariant-loop-k l = l.g ≡ greatest (held_key (marked l.marks).hurried l.dist l.offsets) l.first (l.k - l.first)
