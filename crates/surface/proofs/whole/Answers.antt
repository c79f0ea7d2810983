-- `surface::whole` meets its contract: a number of 64 at most is exact as a double.
use native.Mathlib.Nat.{le_trans}
use lib.Dec.{le→leb, lit≤}
use lib.Ieee.{in_float}
use Rattle.surface.proofs.whole.Goals as goal

pub int_to_float-result : goal.int_to_float-result
unfolding in_float
int_to_float-result c = le→leb _ _ (le_trans c.requires (lit≤ tt))
