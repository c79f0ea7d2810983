-- `layers::any_stray` meets its contract: what is found is whether one of the values before i is stray.
use mathlib.Core.Path.{◌≡◌}
use Prim.Native.Nat.{◌*◌}
use Rattle.prelude.specs.Lists.{any, range}
use Rattle.rules.specs.Value.{stray}
use Rattle.format.specs.Bytes.{value_of}
use Rattle.layers.proofs.any_stray.Given as goal

abbrev pub invariant-loop-i : goal.invariant-loop-i
invariant-loop-i l = l.found ≡ any (λ k. stray (value_of 4 l.bytes (4 * k))) (range 0 l.i)
