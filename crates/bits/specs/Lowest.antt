-- The lowest set bit of a number.
use Rattle.std.specs.Prelude.{◌≡◌, true, false, ℕ, ◌-◌, ◌≤◌, ◌<◌}
use Rattle.std.specs.Int.Bits.{bit_and}
use Rattle.bits.specs.Bits.{has}

-- t is the lowest set bit of m, and the only one that m & (m - 1) lacks
pub record Lowest (m t : ℕ) : Type 0 where
  pub below : t < 64
  pub here : has m t ≡ true
  pub least : (c : ℕ) → has m c ≡ true → t ≤ c
  pub gone : has (bit_and m (m - 1)) t ≡ false
  pub others : (c : ℕ) → (c ≡ t → ⊥) → has (bit_and m (m - 1)) c ≡ has m c
