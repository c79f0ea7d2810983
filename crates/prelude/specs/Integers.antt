-- The sign of a whole number.
use Rattle.std.specs.Prelude.{Bool, true, false, ℤ, pos, negsuc}

abbrev pub is_negative : ℤ → Bool
is_negative (pos v) = false
is_negative (negsuc v) = true
