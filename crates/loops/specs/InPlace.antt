-- What a pass leaves that changes a list in place.
use Rattle.std.specs.Prelude.{◌≡◌, List, ℕ, ◌≤◌, ◌<◌, length, get_or}

-- from lo up to hi each element is what f makes of it there, and the others stay; d stands for what lies beyond the list
pub record Each {A : Type 0} (d : A) (f : ℕ → A → A) (lo hi : ℕ) (l l' : List A) : Type 0 where
  pub len : length l' ≡ length l
  pub inside : (k : ℕ) → lo ≤ k → k < hi → get_or l' k d ≡ f k (get_or l k d)
  pub outside : (k : ℕ) → (lo ≤ k → hi ≤ k) → get_or l' k d ≡ get_or l k d
