-- Checks in another order, or by another condition, answer another number: by computation, each on one input that tells the two apart.
use mathlib.Core.Path.{◌≡◌, refl}
use mathlib.Core.Bool.{Bool, true, false, true≢false}
use mathlib.Core.List.{List, []}
use Prim.Native.Nat.{ℕ}
use native.Mathlib.Omega.{arith}
use lib.ListN.{replicate, set}
use lib.IntN.{ℤ, pos, negsuc}
use Rattle.rules.specs.declared.Record.{Record}
use Rattle.rules.specs.Checks.{first_failing}
use Rattle.rules.specs.Marks.{no_marks}
use Rattle.rules.specs.Begin.{new_record}
use Rattle.rules.specs.Machine.{State, state, count, as_finished, unfit_counts}
use Rattle.rules.specs.Cases.{sides, case_d, with, carved_to, bar, cube, mark_at, mark_d}
use Rattle.rules.specs.WrongNumbers.{WrongBegins, WrongStates, WrongFits, WrongTakes, WrongOpens, OwnChecks}
use Rattle.rules.proofs.Cases.{all-rules}

-- ---- begin, on 27 voxels

-- a value that is out of the range, a negative one on the border, and none negative
far : ℤ
far = pos 1000000001

values : ℤ → List ℤ
values corner = cube corner (negsuc 4) (pos 5)

dist : List ℤ
dist = replicate 27 (pos 0)

status : List ℕ
status = replicate 27 0

marks : ℕ → List ℕ
marks mark = mark_at (sides 3 3 3) 0 mark

pub wrong-begins : WrongBegins
unfolding all-rules first_failing far values dist status marks
wrong-begins =
    record {
      length-first = λ h. let z : ◌≡◌ {A = ℕ} 1 2 = h (sides 2 3 3) (values (pos 5)) (marks 0) dist status in omega arith;
      range-before-length = λ h. let z : ◌≡◌ {A = ℕ} 2 28 = h (sides 3 3 3) (values far) [] dist status in omega arith;
      marks-before-range = λ h. let z : ◌≡◌ {A = ℕ} 28 29 = h (sides 3 3 3) (values far) (marks 4) dist status in omega arith;
      range_last = λ h. let z : ◌≡◌ {A = ℕ} 28 4 = h (sides 3 3 3) (cube far (pos 5) (pos 5)) (marks 0) dist status in omega arith;
      marks-last = λ h. let z : ◌≡◌ {A = ℕ} 29 3 = h (sides 3 3 3) (values (negsuc 0)) (marks 4) dist status in omega arith;
      range-of-32-bits = λ h. let z : ◌≡◌ {A = ℕ} 28 0 = h (sides 3 3 3) (values far) (marks 0) dist status in omega arith;
    }

-- ---- case D with its record changed

-- an opening more than T, finished, or both
over_t : Record → Record
over_t r = count r 0 0 1 (pos 0)

pub wrong-states : WrongStates
unfolding all-rules first_failing over_t
wrong-states =
    record {
      length-first = λ h. let z : ◌≡◌ {A = ℕ} 1 2 = h [] (with (λ r. new_record (sides 2 4 3) 0)) in omega arith;
      unfit-before-length = λ h. let z : ◌≡◌ {A = ℕ} 2 7 = h [] (with over_t) in omega arith;
      marks-before-unfit = λ h. let z : ◌≡◌ {A = ℕ} 7 29 = h (mark_d 0 4) (with over_t) in omega arith;
      finished-before-marks = λ h. let z : ◌≡◌ {A = ℕ} 29 8 = h (mark_d 0 4) (with as_finished) in omega arith;
      finished-before-unfit = λ h. let z : ◌≡◌ {A = ℕ} 7 8 = h (mark_d 0 0) (with (λ r. as_finished (over_t r))) in omega arith;
      marks-of-any-length = λ h. let z : ◌≡◌ {A = ℕ} 2 0 = h [] case_d in omega arith;
      finish-before-unfit = λ h. let z : ◌≡◌ {A = ℕ} 7 8 = h (with (λ r. as_finished (over_t r))) in omega arith;
    }

-- a fit count that the other rule refuses
refused-too : (t : Bool) → false ≡ t → t ≡ true → ⊥
refused-too t e f = true≢false (cc)

pub wrong-fits : WrongFits
unfolding all-rules dist status
wrong-fits =
    record {
      openings-of-T = λ h. refused-too _ (h (new_record (sides 4 4 3) 0)) refl;
      removals-of-n = λ h. refused-too _ (h (count (new_record (sides 4 4 3) 1) 0 48 0 (pos 0))) refl;
      examinations-of-27-n = λ h. refused-too _ (h (count (new_record (sides 4 4 3) 1) 1296 0 0 (pos 0))) refl;
      euler-of-8-n = λ h. refused-too _ (h (count (new_record (sides 4 4 3) 1) 0 0 0 (pos 383))) refl;
      takes-2 = λ h. true≢false (h (sides 3 3 3) dist (set status 13 2) 13);
      takes-the-border = λ h. true≢false (h (sides 3 3 3) dist (set status 0 1) 0);
      takes-pending-inside = λ h. true≢false (h (sides 3 3 3) (set dist 13 (negsuc 0)) (set status 13 3) 13);
    }

-- ---- take

pub wrong-takes : WrongTakes
unfolding all-rules first_failing dist status
wrong-takes =
    record {
      index-before-finished = λ h. let z : ◌≡◌ {A = ℕ} 8 5 = h (no_marks (sides 4 4 3)) 48 (with as_finished) in omega arith;
      gone-before-index = λ h. let z : ◌≡◌ {A = ℕ} 5 10 = h (no_marks (sides 4 4 3)) 48 case_d in omega arith;
      pin-before-gone = λ h. let z : ◌≡◌ {A = ℕ} 10 30 = h (mark_d 0 1) 0 case_d in omega arith;
      pin-before-inside = λ h. let z : ◌≡◌ {A = ℕ} 11 30 = h (mark_d 21 1) 21 case_d in omega arith;
      pin-after-test = λ h. let z : ◌≡◌ {A = ℕ} 30 12 = h (mark_at (sides 5 3 3) 22 1) 22 (bar (replicate 45 (pos 1))) in omega arith;
      test-before-inside = λ h. let z : ◌≡◌ {A = ℕ} 11 12 = h (no_marks (sides 3 3 3)) 13 alone in omega arith;
      takes-inside = λ h. let z : ◌≡◌ {A = ℕ} 11 0 = h (no_marks (sides 4 4 3)) 21 case_d in omega arith;
    }
  where
    -- one voxel of S, with nothing kept around it: m is 1 and k is 0
    alone : State
    alone = state (new_record (sides 3 3 3) 0) (set dist 13 (negsuc 0)) (set status 13 1)

-- ---- open and finish

pub wrong-opens : WrongOpens
unfolding all-rules first_failing
wrong-opens =
    record {
      pending-before-finished = λ h. let z : ◌≡◌ {A = ℕ} 8 13 = h (no_marks (sides 4 4 3)) (with as_finished) in omega arith;
      allowed-before-pending = λ h. let z : ◌≡◌ {A = ℕ} 13 14 = h (no_marks (sides 4 4 3)) case_d in omega arith;
      none-before-allowed = λ h. let z : ◌≡◌ {A = ℕ} 14 15 = h (no_marks (sides 4 4 3)) (carved_to 9 case_d) in omega arith;
      claims-15 = λ h. let z : ◌≡◌ {A = ℕ} 0 15 = h (no_marks (sides 5 3 3)) (carved_to 9 (bar (replicate 45 (pos 1)))) in omega arith;
      closes-while-pending = λ h. let z : ◌≡◌ {A = ℕ} 13 0 = h case_d in omega arith;
    }

-- ---- the rule's own parts

pub own-checks : OwnChecks
unfolding unfit_counts
own-checks =
    record {
      begins = λ s v m d t. refl;
      marks = λ m g. refl;
      counts = λ r. refl;
      takes = λ m i g. refl;
      opens = λ m g. refl;
    }
