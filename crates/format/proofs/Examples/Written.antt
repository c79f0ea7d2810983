-- The worked writings, by computation.
use mathlib.Core.Path.{refl}
use mathlib.Core.List.{flat_map}
use native.Mathlib.Omega.{arith}
use lib.ListN.{replicate}
use Rattle.prelude.specs.Lists.{any, range}
use Rattle.rules.specs.Value.{is_missing, beyond}
use Rattle.rules.specs.Grid.{fit_sides, size, missing}
use Rattle.rules.specs.Checks.{unless}
use Rattle.rules.specs.Cases.{sides, layer_d, values_d}
use Rattle.format.specs.Bytes.{unsigned, narrowed, value_bytes}
use Rattle.format.specs.Written.{width_for, values_form, layers_form, write}
use Rattle.format.specs.RoundTrip.{Writable}
use Rattle.format.specs.Examples.Written.{wide_values, Examples}
use Rattle.format.proofs.Examples.File.{reading-rules}

of-missing : Writable (sides 3 3 3) 0xFFFF (replicate 27 missing)
unfolding fit_sides size any beyond is_missing
of-missing = record { fits = refl; long = refl; known = refl; allowed = omega arith }

of-wide : Writable (sides 3 3 3) 0 wide_values
unfolding fit_sides size any beyond is_missing
of-wide = record { fits = refl; long = refl; known = refl; allowed = omega arith }

pub examples : Examples
unfolding flat_map any range fit_sides size unless layer_d values_d reading-rules unsigned narrowed value_bytes width_for values_form layers_form write
examples =
    record {
      takes = of-missing;
      takes-wide = of-wide;
      header = refl;
      record-of-a-layer = refl;
      record-of-a-wide-layer = refl;
      narrow_high = refl;
      wide_high = refl;
      narrow-low = refl;
      wide_low = refl;
      narrow-missing = refl;
      case-d = refl;
      longest = refl;
      longest-wide = refl;
      first-layer-first = refl;
      grid = refl;
      rest-stays = refl;
      wide-grid = refl;
      read_back = refl;
      read-back-wide = refl;
      small-side = refl;
      large-side = refl;
      too_few = refl;
      too_many = refl;
      too-high = refl;
      too-low = refl;
      no_room = refl;
      no-room-wide = refl;
      sides-before-values = refl;
      values-before-range = refl;
      values-before-room = refl;
      range-before-room = refl;
    }
