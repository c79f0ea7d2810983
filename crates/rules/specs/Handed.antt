-- Document 01, "Grid and worked distances", with document 02's CR 6: the signs of the distances that begin hands out, and its checks on the values that
-- it works on. proofs/Handed.antt proves it.
use Rattle.std.specs.Prelude.{◌≡◌, ◌↔◌, true, List, ℕ, ◌<◌, length, ℤ}
use Rattle.rules.specs.declared.Sides.{Sides}
use Rattle.rules.specs.declared.Record.{Record}
use Rattle.rules.specs.Value.{is_missing}
use Rattle.rules.specs.Grid.{size, value_at}
use Rattle.rules.specs.Answer.{done}
use Rattle.rules.specs.Fill.{is_filled, filled}
use Rattle.rules.specs.Begin.{is_in, inside, begin_checks, begin}
use Rattle.rules.specs.Machine.{is_inside}

-- ---- the worked distances that begin leaves

-- negative exactly in S: so S is, to a later call, what step 1 found
abbrev pub NegativeIsInside : Type 0
NegativeIsInside =
    (s : Sides) (T : ℕ) (values : List ℤ) (marks : List ℕ) (dist : List ℤ) (status : List ℕ) (r : Record)
    → (begin s T values marks dist status).answer ≡ done r → (i : ℕ) → i < size s
    → is_inside (begin s T values marks dist status).lent.dist i ≡ is_in (inside s (filled s values)) i

-- at a missing value exactly if it was filled, and is in S
abbrev pub MissingIsNegative : Type 0
MissingIsNegative =
    (s : Sides) (T : ℕ) (values : List ℤ) (marks : List ℕ) (dist : List ℤ) (status : List ℕ) (r : Record)
    → (begin s T values marks dist status).answer ≡ done r → (i : ℕ) → i < size s → is_missing (value_at values i) ≡ true
    → (is_inside (begin s T values marks dist status).lent.dist i ≡ true)
    ↔ ((is_filled s values i ≡ true) × (is_in (inside s (filled s values)) i ≡ true))

-- ---- the checks

-- 28, 3 and 4 come out the same for the values with gaps filled as for those given, and so does every other
abbrev pub ChecksAsGiven : Type 0
ChecksAsGiven =
    (s : Sides) (values : List ℤ) (marks : List ℕ) (dist : List ℤ) (status : List ℕ) → length values ≡ size s
    → begin_checks s (filled s values) marks dist status ≡ begin_checks s values marks dist status
