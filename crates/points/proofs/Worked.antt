-- `points` by computation, on case A of document 01 after finish.
use mathlib.Core.Path.{◌≡◌, refl}
use mathlib.Core.Bool.{false}
use mathlib.Core.List.{List, [], ◌∷◌, ◌++◌}
use Prim.Native.Nat.{ℕ}
use lib.IntN.{pos, negsuc}
use lib.Ieee.{Float, fin}
use lib.ListN.{replicate}
use Rattle.rules.specs.Answer.{Reply, refused, done, outcome}
use Rattle.surface.proofs.Worked.{rule, case_a, grid, one}
use Rattle.points.specs.declared.Listing.{Listing}
use Rattle.points.specs.Listing.{point_at, walk, doubles, listing, points}

unfoldable pub points-rule : Unit {0}
unfolding rule point_at walk doubles listing points
points-rule = tt

abbrev half : Float
half = fin false 1 (negsuc 0)

abbrev more : Float
more = fin false 3 (negsuc 0)

-- 0, which stands in the buffer before
abbrev blank : ℕ → List Float
blank n = replicate n (fin false 0 (pos 0))

abbrev listed : ℕ → ℕ → Reply Listing
listed count next = done (record { count = count; next = next })

-- ---- six points, at positions 14, 31, 36, 39, 40, 41

pub all-six :
    points 0 case_a (blank 22)
    ≡ outcome (listed 6 81)
    ((one ∷ one ∷ half ∷ one ∷ half ∷ one ∷ half ∷ one ∷ one ∷ more ∷ one ∷ one ∷ one ∷ more ∷ one ∷ one ∷ one ∷ more ∷ []) ++ blank 4)
unfolding points-rule
all-six = refl

-- room for two
pub first_two : points 0 case_a (blank 8) ≡ outcome (listed 2 32) ((one ∷ one ∷ half ∷ one ∷ half ∷ one ∷ []) ++ blank 2)
unfolding points-rule
first_two = refl

-- and from there on
pub next-two : points 32 case_a (blank 6) ≡ outcome (listed 2 40) (half ∷ one ∷ one ∷ more ∷ one ∷ one ∷ [])
unfolding points-rule
next-two = refl

pub no_room : points 7 case_a (blank 2) ≡ outcome (listed 0 7) (blank 2)
unfolding points-rule
no_room = refl

pub at-the-end : points 81 case_a (blank 3) ≡ outcome (listed 0 81) (blank 3)
unfolding points-rule
at-the-end = refl

-- ---- its numbers, in order

pub past_the_end : points 82 case_a (blank 3) ≡ outcome (refused 5) (blank 3)
unfolding points-rule
past_the_end = refl

pub unfinished : points 82 (grid false (negsuc 4) (pos 5)) (blank 3) ≡ outcome (refused 9) (blank 3)
unfolding points-rule
unfinished = refl
