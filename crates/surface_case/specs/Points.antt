-- An answer of crossing that is one given point.
use Rattle.std.specs.Prelude.{Bool, false, ◌&&◌, Float, Option, None, Some}
use Rattle.std.specs.Float.Ieee.{eq}
use Rattle.rules.specs.Answer.{Reply, refused, done}
use Rattle.surface.specs.declared.Point.{Point}

abbrev pub is_point : Float → Float → Float → Reply (Option Point) → Bool
is_point x y z (done (Some p)) = eq p.x x && (eq p.y y && eq p.z z)
is_point x y z (done None) = false
is_point x y z (refused n) = false
