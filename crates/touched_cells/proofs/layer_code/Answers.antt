-- `touched_cells::layer_code` meets its contract: the rows side by side.
use mathlib.Core.Path.{◌≡◌, ◌∙◌}
use Prim.Native.Nat.{ℕ, ◌<◌}
use lib.Dec.{lit≤}
use Rattle.bits.specs.Bits.{has, bits}
use Rattle.bits.proofs.Bits.{three, bits-has}
use Rattle.touched_cells.specs.Block.{layer_bit}
use Rattle.touched_cells.proofs.layer_code.Goals as goal

row : {r x : ℕ} → r ≡ x → x < 64 → r ≡ bits 6 (has x)
row {r} {x} e h = e ∙ bits-has 6 x h

pub returns : goal.returns
unfolding bits layer_bit
returns c =
    three 64 6 (layer_bit c.args.layer) (lit≤ tt) (row c.from.ensures (c.requires 0)) (row c.from-2.ensures (c.requires 1))
    (row c.from-3.ensures (c.requires 2))
