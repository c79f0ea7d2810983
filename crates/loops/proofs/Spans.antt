-- A part of a list, walked by its elements, against the indices of the whole; and scans as folds.
use mathlib.Core.Path.{◌≡◌, refl, sym, ap, ◌∙◌}
use mathlib.Core.Bool.{Bool, ◌||◌}
use mathlib.Core.List.{List, [], ◌∷◌}
use Prim.Native.Nat.{ℕ, zero, suc, ◌+◌, ◌≤◌}
use native.Mathlib.Omega.{arith}
use lib.ListN.{length, get_or, take, drop}
use lib.Seq.{drop-cons, take-length}
use Rattle.std.specs.List.{fold}
use Rattle.cells.specs.Groups.{any}
use Rattle.prelude.proofs.Bools.{or-zero, or_assoc}
use Rattle.rules.specs.Grid.{range}

-- some element has it: found, or among those still to come
pub fold-any : {A : Type 0} (p : A → Bool) (found : Bool) (xs : List A) → fold (λ t x. t || p x) found xs ≡ found || any p xs
unfolding any
fold-any p found [] = sym (or-zero found)
fold-any p found (x ∷ xs) = fold-any p (found || p x) xs ∙ or_assoc found (p x) (any p xs)

-- n elements from first on
pub any-span : {A : Type 0} (p : A → Bool) (d : A) (xs : List A) (first n : ℕ) → first + n ≤ length xs
    → any p (take n (drop first xs)) ≡ any (λ i. p (get_or xs i d)) (range first n)
unfolding any range
any-span p d xs first zero h = refl
any-span {A = A} p d xs first (suc n) h =
    ap (λ (rest : List A). any p (take (suc n) rest)) (drop-cons xs first d (omega arith))
    ∙ ap (λ (t : Bool). p (get_or xs first d) || t) (any-span p d xs (suc first) n (omega arith))

-- all of them
pub any-read : {A : Type 0} (p : A → Bool) (d : A) (xs : List A) → any p xs ≡ any (λ i. p (get_or xs i d)) (range 0 (length xs))
any-read {A = A} p d xs =
    ap (any p) (sym (take-length xs)) ∙ any-span p d xs 0 (length xs) (omega arith)
