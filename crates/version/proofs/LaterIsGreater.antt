-- A later version has the greater number.
use native.Mathlib.Omega.{arith}
use Rattle.version.specs.Version.{LaterIsGreater}

pub later-is-greater : LaterIsGreater
later-is-greater =
    record {
      by-major = λ a b c x y z hb hc h. omega arith;
      by-minor = λ a b c y z hc h. omega arith;
      by-patch = λ a b c z h. omega arith;
    }
