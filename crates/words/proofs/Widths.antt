-- The number of bytes of a width is one of two.
use mathlib.Core.Path.{refl}
use mathlib.Core.Logic.{inl, inr}
use Rattle.format.specs.Bytes as spec
use Rattle.words.specs.declared.Width.{Width}
use Rattle.words.specs.Widths.{bytes_in}

pub two-or-four : (w : Width) → spec.Width (bytes_in w)
two-or-four Width.Two = inl refl
two-or-four Width.Four = inr refl
