-- `fill_offsets` meets its contract: the stretches so far have their offsets.
use mathlib.Core.Path.{◌≡◌}
use Prim.Native.Nat.{ℕ, ◌<◌}
use lib.ListN.{get_or}
use Rattle.rules.specs.Marks.{marked}
use Rattle.keys.specs.Key.{key_at, stretch_key}
use Rattle.offsets.specs.Offsets.{offset_of}
use Rattle.offsets.proofs.fill_offsets.Given as goal

abbrev pub invariant-loop-k : goal.invariant-loop-k
invariant-loop-k l =
    (m : ℕ) → m < l.k → get_or l.offset-items m 0 ≡ offset_of (stretch_key (key_at (marked l.marks).hurried l.dist l.status) m)
