-- Document 02's CR 14: the order record, "the places served so far, the one last served longest ago first"; and which place is served.
use Rattle.std.specs.Prelude.{Bool, false, not, cond, ◌||◌, List, [], ◌∷◌, ◌++◌, ℕ, leb, ltb, eqb, length, Option, None, Some}
use Rattle.cells.specs.Groups.{any, filter}
use Rattle.rules.specs.Grid.{range, is_in}

abbrev pub names_twice : List ℕ → Bool
names_twice [] = false
names_twice (p ∷ ps) = is_in ps p || names_twice ps

-- "An order record longer than the number of grids, or naming a place twice or one past the last grid, is number 7"
unfoldable pub unfit_order : ℕ → List ℕ → Bool
unfit_order n order = ltb n (length order) || (names_twice order || any (leb n) order)

-- "first the lowest place never served, and if all of these were served, the one served longest ago": the places in the order in which they are looked at
unfoldable pub queue : ℕ → List ℕ → List ℕ
queue n order = filter (λ p. not (is_in order p)) (range 0 n) ++ order

-- "It chooses among the grids with something pending"
unfoldable pub first_waiting : (ℕ → Bool) → List ℕ → Option ℕ
first_waiting waits [] = None
first_waiting waits (p ∷ ps) = cond (waits p) (Some p) (first_waiting waits ps)

-- the order record after a place was served: that place is the last
unfoldable pub others : ℕ → List ℕ → List ℕ
others p order = filter (λ q. not (eqb q p)) order

unfoldable pub served_last : ℕ → List ℕ → List ℕ
served_last p order = others p order ++ (p ∷ [])
