-- The worked patches, by computation.
use mathlib.Core.Path.{refl}
use Rattle.rules.specs.Checks.{first_failing}
use Rattle.format.specs.Bytes.{signed, widened, value_of}
use Rattle.format.specs.Patch.{checks_of, applied_of}
use Rattle.format.specs.Examples.Patch.{Examples}

pub examples : Examples
unfolding first_failing signed widened value_of checks_of applied_of
examples =
    record {
      later-stands = refl;
      missing-mark = refl;
      over-wide = refl;
      without = refl;
      taken = refl;
      one_byte = refl;
      seven-bytes = refl;
      wrong-mark = refl;
      no-such-voxel = refl;
      high_byte = refl;
      third-byte = refl;
      short-before-mark = refl;
      mark-before-index = refl;
      own-before-next = refl;
    }
