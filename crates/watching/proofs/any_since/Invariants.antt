-- `watching::any_since` meets its contract: around no entry before r one passes.
use mathlib.Core.Path.{◌≡◌}
use mathlib.Core.Bool.{false}
use Prim.Native.Nat.{ℕ, ◌≤◌, ◌<◌}
use Rattle.entries.specs.Entries.{index_of}
use Rattle.watching.specs.Watching.{any_around}
use Rattle.watching.proofs.any_since.Given as goal

abbrev pub invariant-loop-r : goal.invariant-loop-r
invariant-loop-r l = (q : ℕ) → l.from ≤ q → q < l.r → any_around l.s l.dist l.status (index_of l.list q) ≡ false
