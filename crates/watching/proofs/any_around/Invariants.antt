-- `watching::any_around` meets its contract: no position before p passes.
use mathlib.Core.Path.{◌≡◌}
use mathlib.Core.Bool.{false}
use Prim.Native.Nat.{ℕ, ◌<◌}
use Rattle.watching.specs.Watching.{passes_around}
use Rattle.watching.proofs.any_around.Given as goal

abbrev pub invariant-loop-p : goal.invariant-loop-p
invariant-loop-p l = (q : ℕ) → q < l.p → passes_around l.s l.dist l.status l.i q ≡ false
