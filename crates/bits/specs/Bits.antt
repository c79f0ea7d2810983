-- A set of small numbers as one number: the binary digit at c says whether c is in the set.
use Rattle.std.specs.Prelude.{Bool, ◌&&◌, ℕ, zero, suc, ◌+◌, ◌*◌, ◌/◌, ◌%◌, ◌^◌, eqb}
use Rattle.cells.specs.Cells.{bit}

-- the digit at c is 1
unfoldable pub has : ℕ → ℕ → Bool
has x c = eqb (x / 2 ^ c % 2) 1

-- the set's numbers below n
unfoldable pub bits : ℕ → (ℕ → Bool) → ℕ
bits zero s = 0
bits (suc n) s = bits n (λ c. s (suc c)) * 2 + bit (s 0)

-- the set's numbers doubled: as digits they stand two apart
unfoldable pub spaced : (ℕ → Bool) → ℕ → Bool
spaced s c = eqb (c % 2) 0 && s (c / 2)
