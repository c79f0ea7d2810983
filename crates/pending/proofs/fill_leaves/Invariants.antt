-- `fill_leaves` meets its contract: the leaves so far are made.
use mathlib.Core.Path.{◌≡◌}
use Prim.Native.Nat.{ℕ, ◌<◌}
use lib.ListN.{get_or}
use Rattle.rules.specs.Marks.{marked}
use Rattle.offsets.specs.Offsets.{held_group}
use Rattle.pending.proofs.fill_leaves.Given as goal

abbrev pub invariant-loop-q : goal.invariant-loop-q
invariant-loop-q l = (m : ℕ) → m < l.q → get_or l.leaf-items m 0 ≡ held_group (marked l.marks).hurried l.dist l.offsets m
