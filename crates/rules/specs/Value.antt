-- What a value means, to begin, to the writer and to the reader: document 01, "Grid and worked distances", with the range and the missing mark of
-- document 02's CR 5, "Long tunnels".
use Rattle.std.specs.Prelude.{Bool, true, false, not, ◌&&◌, ℕ, leb, ltb, eqb, ℤ, pos, negsuc}

-- -2,147,483,648
abbrev pub missing : ℤ
missing = negsuc 2147483647

unfoldable pub is_missing : ℤ → Bool
is_missing (pos v) = false
is_missing (negsuc v) = eqb v 2147483647

-- measured, and not from -bound to bound
unfoldable pub beyond : ℕ → ℤ → Bool
beyond bound (pos v) = ltb bound v
beyond bound (negsuc v) = leb bound v && not (is_missing (negsuc v))

-- number 28: neither in -1,000,000,000 to 1,000,000,000 nor the missing mark
abbrev pub stray : ℤ → Bool
stray v = beyond 1000000000 v

-- ---- a value that is not stray is measured or missing

unfoldable pub measured_negative : ℤ → Bool
measured_negative (pos v) = false
measured_negative (negsuc v) = not (is_missing (negsuc v))

unfoldable pub measured_non_negative : ℤ → Bool
measured_non_negative (pos v) = true
measured_non_negative (negsuc v) = false

-- a value of 0 or more as a number
abbrev pub amount : ℤ → ℕ
amount (pos v) = v
amount (negsuc v) = 0
