-- The bits of a span of bytes, joined in one number.
use Rattle.std.specs.Prelude.{◌≡◌, Bool, false, ◌||◌, List, ℕ, ◌-◌, get_or}
use Rattle.std.specs.Int.Bits.{bit_or}
use Rattle.cells.specs.Groups.{any}
use Rattle.rules.specs.Grid.{range}

-- a test of some bits: it holds of two numbers joined where it holds of either
pub record BitTest (p : ℕ → Bool) : Type 0 where
  pub none : p 0 ≡ false
  pub either : (x y : ℕ) → p (bit_or x y) ≡ p x || p y

-- r has the bits that the bytes from first up to end have
pub record Joined (l : List ℕ) (first end r : ℕ) : Type 0 where
  pub each : (p : ℕ → Bool) → BitTest p → p r ≡ any (λ i. p (get_or l i 0)) (range first (end - first))
