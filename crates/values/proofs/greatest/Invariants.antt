-- `greatest`: M over the voxels so far.
use Prim.Native.Nat.{◌≤◌}
use mathlib.Core.Path.{◌≡◌}
use lib.ListN.{length}
use lib.IntN.{pos}
use Rattle.values.proofs.Signs.{most}
use Rattle.values.proofs.greatest.Given as goal

abbrev pub invariant-loop-v : goal.invariant-loop-v
invariant-loop-v l =
    (most l.values l.d (length l.yielded) ≤ 1000000000) × (l.m ≡ pos (most l.values l.d (length l.yielded)))
