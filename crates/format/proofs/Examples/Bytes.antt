-- The worked values, by computation.
use mathlib.Core.Path.{refl}
use Rattle.prelude.specs.Lists.{range}
use Rattle.rules.specs.Value.{is_missing}
use Rattle.format.specs.Bytes.{signed, widened, value_of, values_of, unsigned, narrowed, value_bytes}
use Rattle.format.specs.Examples.Bytes.{Examples}

pub examples : Examples
unfolding range is_missing signed widened value_of values_of unsigned narrowed value_bytes
examples =
    record {
      two_bytes = refl;
      four_bytes = refl;
      six = refl;
      minus-six = refl;
      minus-six-wide = refl;
      greatest = refl;
      missing = refl;
      missing-wide = refl;
      measured-wide = refl;
      greatest-wide = refl;
      in_order = refl;
      two-written = refl;
      four-written = refl;
      minus-six-written = refl;
      minus-six-written-wide = refl;
      missing-written = refl;
      missing-written-wide = refl;
      measured-written-wide = refl;
      right-tag = refl;
      wrong-kind = refl;
      wrong_first = refl;
    }
