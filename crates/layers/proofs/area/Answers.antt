-- `layers::area` meets its contract.
use mathlib.Core.Path.{refl}
use native.Mathlib.Omega.{arith}
use Rattle.format.proofs.Sizes.{area_small}
use Rattle.layers.proofs.area.Goals as goal

pub overflow_mul-result : goal.overflow_mul-result
overflow_mul-result c = omega (arith, area_small _ c.requires)

pub returns : goal.returns
returns c = (refl, area_small _ c.requires)
