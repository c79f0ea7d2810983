-- Document 02's CR 14: "laid end to end in the lent buffers". Lists laid end to end, and cut again at given lengths.
use Rattle.std.specs.Prelude.{List, [], ◌∷◌, ◌++◌, ℕ, ◌+◌, get_or, set, take, drop}

unfoldable pub total : List ℕ → ℕ
total [] = 0
total (n ∷ ns) = n + total ns

unfoldable pub laid : {A : Type 0} → List (List A) → List A
laid [] = []
laid (l ∷ ls) = l ++ laid ls

unfoldable pub cut : {A : Type 0} → List ℕ → List A → List (List A)
cut [] l = []
cut (n ∷ ns) l = take n l ∷ cut ns (drop n l)

-- the part at a place
abbrev pub part_at : {A : Type 0} → List ℕ → List A → ℕ → List A
part_at ns l p = get_or (cut ns l) p []

-- a part becomes another, and the others stay
unfoldable pub put : {A : Type 0} → List ℕ → List A → ℕ → List A → List A
put ns l p part = laid (set (cut ns l) p part)
