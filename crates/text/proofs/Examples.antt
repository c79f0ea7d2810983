-- The worked lines, by computation.
use mathlib.Core.Path.{refl}
use Rattle.text.specs.Line.{decimal, line_text}
use Rattle.text.specs.Examples.{Examples}

pub examples : Examples
unfolding decimal line_text
examples =
    record {
      refusal = refl;
      carving = refl;
      zero-digit = refl;
      two_digits = refl;
      five-digits = refl;
      twenty-digits = refl;
      no_sign = refl;
      minus = refl;
    }
