-- `flood`: whatever the labels were at the call, if the loop began in a state of their flood, it is in one now.
use Prim.Native.Nat.{◌-◌}
use mathlib.Core.Path.{◌≡◌}
use lib.ListN.{length}
use Rattle.pushing.specs.Push.{Fill, fill_of}
use Rattle.floods.specs.Flood.{spanned, Floodable}
use Rattle.floods.proofs.Spreading.{Spread}
use Rattle.floods.proofs.flood.Given as goal

abbrev pub invariant-loop-at : goal.invariant-loop-at
invariant-loop-at l =
    (B : Fill) → B.end ≡ l.start → Floodable (spanned l.patch l.offsets) l.back B l.seed → Spread l.patch l.offsets l.back B l.seed (fill_of l.initial.label l.initial.work l.initial.end) l.start
    → Spread l.patch l.offsets l.back B l.seed (fill_of l.label l.work l.end) l.at

abbrev pub decreases-loop-at : goal.decreases-loop-at
decreases-loop-at l = length l.initial.label - l.at
