-- The worked files, by computation.
use mathlib.Core.Path.{refl}
use Rattle.prelude.specs.Lists.{any, range}
use Rattle.rules.specs.Grid.{fit_sides, size}
use Rattle.rules.specs.Value.{is_missing, beyond}
use Rattle.rules.specs.Checks.{unless}
use Rattle.rules.specs.Begin.{is_in}
use Rattle.rules.specs.Cases.{layer_d, values_d}
use Rattle.format.specs.Bytes.{signed, widened, value_of, values_of}
use Rattle.format.specs.Layer.{width_at, values_in, with_layer}
use Rattle.format.specs.Patch.{checks_of, applied_of}
use Rattle.format.specs.File.{fit_up_to, layer_start, layers_checks, layers_filled, filled, read_up_to, read}
use Rattle.format.specs.BottomUp.{layers_in_any_order, read_in_any_order}
use Rattle.format.specs.Examples.File.{Examples}

-- all that read computes with
unfoldable pub reading-rules : Unit {0}
unfolding is_missing beyond signed widened value_of values_of width_at values_in with_layer checks_of applied_of fit_up_to layer_start layers_checks layers_filled filled
    read_up_to read
reading-rules = tt

pub examples : Examples
unfolding any range fit_sides size unless is_in layer_d values_d reading-rules layers_in_any_order read_in_any_order
examples =
    record {
      grid = refl;
      case-d = refl;
      short-header = refl;
      wrong-header = refl;
      small-side = refl;
      large-side = refl;
      wrong-buffer = refl;
      short-record = refl;
      no_record = refl;
      wrong-record = refl;
      no-such-layer = refl;
      came-before = refl;
      came-just-before = refl;
      turned = refl;
      turned-before = refl;
      first-is-1 = refl;
      skipped = refl;
      patched = refl;
      bytes_after = refl;
      wrong-patch = refl;
      no-such-voxel = refl;
      mixed = refl;
      wide = refl;
      patched-wide = refl;
      wide-mark-narrow-length = refl;
      furthest = refl;
      too_far = refl;
      too-deep = refl;
      not-missing = refl;
      last-value = refl;
      patched-too-late = refl;
      over-in-a = refl;
      over-in-b = refl;
      over-in-c = refl;
      not-over = refl;
      up-to-64 = refl;
      short-before-tag = refl;
      tag-before-sides = refl;
      sides-before-buffer = refl;
      buffer-before-records = refl;
      layer-before-next = refl;
      repeat-before-next = refl;
      repeat-before-patch = refl;
      skip-before-next = refl;
      short-before-skip = refl;
      mark-before-skip = refl;
      layer-before-skip = refl;
      short-before-range = refl;
      layer-before-range = refl;
      repeat-before-range = refl;
      skip-before-range = refl;
      range-before-next = refl;
      range-before-patch = refl;
    }
