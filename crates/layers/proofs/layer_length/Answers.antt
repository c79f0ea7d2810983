-- `layers::layer_length` meets its contract.
use mathlib.Core.Path.{◌≡◌, ap₂}
use Prim.Native.Nat.{◌*◌, ◌≤◌}
use native.Mathlib.Omega.{arith}
use Rattle.format.proofs.Sizes.{bytes_small}
use Rattle.format.specs.Layer.{area}
use Rattle.words.specs.Widths.{bytes_in}
use Rattle.words.proofs.Widths.{two-or-four}
use Rattle.layers.proofs.layer_length.Goals as goal
use Rattle.layers.proofs.layer_length.Goals.{After-area}

small : (c : After-area) → let a = c.args in bytes_in a.width * area a.sides ≤ 16384
small c = bytes_small _ _ c.requires (two-or-four c.args.width)

bytes : (c : After-area) → let a = c.args in c.bytes.result * c.area.result ≡ bytes_in a.width * area a.sides
bytes c = ap₂ ◌*◌ c.bytes.ensures c.area.ensures.0

pub overflow_mul-result : goal.overflow_mul-result
overflow_mul-result c = omega (arith, small c, bytes c)

pub overflow_add-result : goal.overflow_add-result
overflow_add-result c = omega (arith, small c, bytes c)

pub returns : goal.returns
returns c = (omega (arith, bytes c), omega (arith, small c, bytes c))
