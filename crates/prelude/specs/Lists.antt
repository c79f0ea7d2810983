-- Lists by a test, and the list of consecutive numbers.
use Rattle.std.specs.Prelude.{Bool, false, cond, ◌||◌, List, [], ◌∷◌, ℕ, zero, suc}

-- some element passes the test
unfoldable pub any : {A : Type 0} → (A → Bool) → List A → Bool
any p [] = false
any p (x ∷ xs) = p x || any p xs

-- the element before the list, if the test passed
abbrev pub cons_if : {A : Type 0} → Bool → A → List A → List A
cons_if t x xs = cond t (x ∷ xs) xs

-- the elements that pass the test, in the list's order
unfoldable pub filter : {A : Type 0} → (A → Bool) → List A → List A
filter p [] = []
filter p (x ∷ xs) = cons_if (p x) x (filter p xs)

-- k, k + 1, .., n of them
unfoldable pub range : ℕ → ℕ → List ℕ
range k zero = []
range k (suc n) = k ∷ range (suc k) n
