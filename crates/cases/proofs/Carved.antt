-- Cases that are carved to their end, by computation from the rules. In both every point is measured, so begin works on the values as given: to
-- compute with the fill in each step would take too long.
use mathlib.Core.Path.{◌≡◌, refl, ap, sym, subst, fun_ext}
use mathlib.Core.Bool.{false}
use mathlib.Core.List.{List, []}
use Prim.Native.Nat.{ℕ}
use lib.IntN.{ℤ, pos}
use lib.ListN.{length, replicate}
use Rattle.cells.specs.Groups.{any}
use Rattle.rules.specs.declared.Sides.{Sides}
use Rattle.rules.specs.declared.Record.{Record}
use Rattle.rules.specs.Value.{is_missing}
use Rattle.rules.specs.Grid.{size}
use Rattle.rules.specs.Checks.{unless}
use Rattle.rules.specs.Answer.{Outcome, Buffers, untouched, buffers}
use Rattle.rules.specs.Marks.{marked, no_marks}
use Rattle.rules.specs.Begin.{new_record, begin_checks, begun_on, begin}
use Rattle.rules.specs.Machine.{State, state, after}
use Rattle.rules.specs.Cases.{sides, start_with, start, values_c, case_c, CarvesC, CaseC, values_arc, arc, CarvesArc, Arc}
use Rattle.rules.proofs.Cases.{all-rules}
use Rattle.rules.proofs.Gaps.{measured-as-before}

-- a case, begun on its values as they are given
unfoldable plain : Sides → ℕ → List ℤ → State
plain s T values =
    let dist = replicate (length values) (pos 0) in
    let status : List ℕ = replicate (length values) 0 in
    let marks = no_marks s in
    after (λ r. r) (state (new_record s T) [] [])
    (unless (begin_checks s values marks dist status) (untouched (buffers dist status)) (begun_on s T values (marked marks)))

start_is : (s : Sides) (T : ℕ) (values : List ℤ) → length values ≡ size s → any is_missing values ≡ false → plain s T values ≡ start s T values
unfolding plain start start_with begin
start_is s T values n m =
    let dist = replicate (length values) (pos 0) in
    let status : List ℕ = replicate (length values) 0 in
    let marks = no_marks s in
    ap (λ (o : Outcome Buffers Record). after (λ r. r) (state (new_record s T) [] [])
    (unless (begin_checks s values marks dist status) (untouched (buffers dist status)) o)) (sym (measured-as-before s T values (marked marks) n m))

-- ---- case C

plain-c : CarvesC (λ T. plain (sides 5 5 3) T values_c)
unfolding all-rules plain
plain-c = record { one-examination = refl; middle-filled = refl; opening = refl; none_allowed = refl; none_left = refl; not_taken = refl }

length-c : length values_c ≡ size (sides 5 5 3)
unfolding all-rules
length-c = refl

measured-c : any is_missing values_c ≡ false
unfolding all-rules
measured-c = refl

start-c : (T : ℕ) → plain (sides 5 5 3) T values_c ≡ case_c T
unfolding case_c
start-c T = start_is (sides 5 5 3) T values_c length-c measured-c

pub case-c : CaseC
case-c = subst CarvesC (fun_ext start-c) plain-c

-- ---- the arc

plain-arc : CarvesArc (plain (sides 5 5 3) 0 values_arc)
unfolding all-rules plain
plain-arc = record { first = refl; second = refl; end = refl }

length-arc : length values_arc ≡ size (sides 5 5 3)
unfolding all-rules
length-arc = refl

measured-arc : any is_missing values_arc ≡ false
unfolding all-rules
measured-arc = refl

pub the-arc : Arc
unfolding arc
the-arc = subst CarvesArc (start_is (sides 5 5 3) 0 values_arc length-arc measured-arc) plain-arc
