-- The worked records, by computation.
use mathlib.Core.Path.{refl}
use Rattle.prelude.specs.Lists.{range}
use Rattle.rules.specs.Grid.{fit_sides}
use Rattle.rules.specs.Checks.{unless}
use Rattle.format.specs.Bytes.{signed, widened, value_of, values_of}
use Rattle.format.specs.Layer.{width_at, read_layer, values_in, with_layer}
use Rattle.format.specs.Examples.Layer.{Examples}

pub examples : Examples
unfolding range fit_sides unless signed widened value_of values_of width_at read_layer values_in with_layer
examples =
    record {
      found = refl;
      bytes = refl;
      values = refl;
      found-wide = refl;
      bytes-wide = refl;
      values-wide = refl;
      just-long = refl;
      just-long-wide = refl;
      refused-alone = refl;
      unfit-sides = refl;
      short = refl;
      short-wide = refl;
      past_the_end = refl;
      wrong_first = refl;
      wrong-kind = refl;
      no-such-layer = refl;
      no-such-layer-wide = refl;
      wide-of-narrow-length = refl;
      wide-but-for-the-first = refl;
      one-byte-left = refl;
      two-bytes-left = refl;
      sides-before-short = refl;
      short-before-tag = refl;
      short-before-layer-wide = refl;
      tag-before-layer = refl;
    }
