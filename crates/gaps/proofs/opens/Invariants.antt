-- `opens`: what is found before o, or stands from o on, is what stands in all.
use Prim.Native.Nat.{ℕ, ◌+◌}
use mathlib.Core.Path.{◌≡◌}
use mathlib.Core.Bool.{Bool, ◌||◌}
use mathlib.Core.List.{List}
use lib.Dec.{eqb}
use lib.ListN.{get_or, drop}
use Rattle.prelude.specs.Lists.{any}
use Rattle.gaps.proofs.opens.Given as goal

-- the voxel at offset o from base has the label 3
abbrev pub three : List ℕ → ℕ → ℕ → Bool
three label base o = eqb (get_or label (base + o) 0) 3

abbrev pub invariant-loop-o : goal.invariant-loop-o
invariant-loop-o l = (l.found || any (three l.label l.base) (drop l.o-index l.offsets)) ≡ any (three l.label l.base) l.offsets
