-- `surface::share` meets its contract: numbers of 2 ^ 32 at most are exact as doubles.
use mathlib.Core.Path.{refl}
use Prim.Native.Nat.{◌≤◌}
use native.Mathlib.Nat.{le_trans}
use native.Mathlib.Omega.{arith}
use lib.Dec.{le→leb, lit≤}
use lib.Ieee.{in_float}
use Rattle.surface.specs.Surface.{share}
use Rattle.surface.proofs.share.Goals as goal

pub int_to_float-result : goal.int_to_float-result
unfolding in_float
int_to_float-result c = let h : c.args.p ≤ 4294967296 = omega (arith, c.requires) in le→leb _ _ (le_trans h (lit≤ tt))

pub int_to_float-result-2 : goal.int_to_float-result-2
unfolding in_float
int_to_float-result-2 c = le→leb _ _ (le_trans c.requires (lit≤ tt))

pub returns : goal.returns
unfolding share
returns c = refl
