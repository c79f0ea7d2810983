-- Document 02's CR 12, "Grids for the training course": the values that a seed gives, and the call.
use Rattle.std.specs.Prelude.{ℕ, zero, suc, ◌+◌, ◌/◌, ◌%◌, ◌^◌, cond, not, List, [], ◌∷◌, map, length, ℤ, pos, ◌-ℤ◌, ◌==◌, bit_xor}
use Rattle.rules.specs.declared.Sides.{Sides}
use Rattle.rules.specs.Grid.{fit_sides, size, voxels, on_border}
use Rattle.rules.specs.Checks.{Check, ◌when◌, unless}
use Rattle.rules.specs.Answer.{done, Outcome, outcome, untouched}

-- ---- a value

-- "add hex 9E3779B9 to s with wrapping at 32 bits"
unfoldable pub advanced : ℕ → ℕ
advanced s = (s + 0x9E3779B9) % 2 ^ 32

-- "From a 32-bit seed s, for each index in rising order": s, after so many indices
unfoldable pub s_after : ℕ → ℕ → ℕ
s_after seed zero = seed
s_after seed (suc i) = advanced (s_after seed i)

-- "Then u is s with its upper 16 bits, shifted down by 16, combined into it by exclusive or"
abbrev pub mixed : ℕ → ℕ
mixed s = bit_xor s (s / 2 ^ 16)

-- "and the value is the remainder of u by 2,001, less 1,000"
unfoldable pub value_of : ℕ → ℤ
value_of s = pos (mixed s % 2001) -ℤ pos 1000

-- "A border voxel gets 1,000, though s advances there too"
unfoldable pub practice_at : Sides → ℕ → ℕ → ℤ
practice_at sides seed i = cond (on_border sides i) (pos 1000) (value_of (s_after seed (suc i)))

-- ---- the call

-- "Unfit sides answer 1, and a lent value buffer of another length than n answers 2"
abbrev pub practice_checks : Sides → List ℤ → List Check
practice_checks sides values =
    1 when not (fit_sides sides)
    ∷ 2 when not (length values == size sides)
    ∷ []

unfoldable pub practised : Sides → ℕ → List ℤ
practised sides seed = map (practice_at sides seed) (voxels sides)

-- nothing is answered but that it is done
unfoldable pub practice : Sides → ℕ → List ℤ → Outcome (List ℤ) (Unit {0})
practice sides seed values = unless (practice_checks sides values) (untouched values) (outcome (done tt) (practised sides seed))
