-- Steps by another rule do something else: by computation, each on one input that tells the two apart.
use mathlib.Core.Path.{◌≡◌, refl, ap, sym}
use mathlib.Core.Bool.{Bool, true, false, true≢false}
use mathlib.Core.List.{List, [], ◌∷◌, ◌++◌}
use Rattle.std.specs.Prelude.{Some}
use Prim.Native.Nat.{ℕ}
use native.Mathlib.Omega.{arith}
use lib.Dec.{eqb}
use lib.ListN.{length, replicate, set}
use lib.IntN.{ℤ, pos, negsuc, nat_abs}
use Rattle.rules.specs.Grid.{value_at, is_in}
use Rattle.rules.specs.Marks.{unmarked, no_marks}
use Rattle.rules.specs.Status.{status_of}
use Rattle.rules.specs.Begin.{new_record}
use Rattle.rules.specs.Machine.{State, state, the_voxel}
use Rattle.rules.specs.Cases.{sides, carved_to, bar, values_two, cube, wall, mark_at}
use Rattle.rules.specs.WrongSteps.{largest_by, last_foremost, first_failed, WrongStarts, WrongSteps, WrongAnswers}
use Rattle.rules.proofs.Cases.{all-rules}

-- ---- begin

pub wrong-starts : WrongStarts
unfolding all-rules largest_by
wrong-starts =
    record {
      later-of-equals = λ h. true≢false (ap (λ (S : List ℕ). is_in S 21) (h (sides 5 3 3) values_two));
      smallest-group = λ h. true≢false (ap (λ (S : List ℕ). is_in S 29) (h (sides 7 3 3) groups-of-two-and-one));
      joined-by-faces = λ h. let z : ◌≡◌ {A = ℕ} 2 1 = ap length (h (sides 4 4 3) edge) in omega arith;
      m-of-zero = λ h. let z : ◌≡◌ {A = ℕ} 1 0 = h (sides 3 3 3) (cube (pos 0) (negsuc 4) (pos 0)) (13 ∷ []) in omega arith;
      m-of-all = λ h. let z : ◌≡◌ {A = ℕ} 5 9 = h (sides 3 3 3) (cube (pos 9) (negsuc 4) (pos 5)) (13 ∷ []) in omega arith;
      d-from-discarded = λ h. let z : ◌≡◌ {A = ℕ} 2 0 = h (sides 5 3 3) values_two 23 in omega arith;
      fills-with-the-mark = λ h.
          let z : ◌≡◌ {A = ℕ} 1 2147483648 = ap (λ (v : List ℤ). nat_abs (value_at v 62)) (h (sides 5 5 5) (wall (negsuc 3) (pos 4))) in
          omega arith;
      nothing-pending = λ h. let z : ◌≡◌ {A = ℕ} 3 1 = h (sides 5 3 3) unmarked [] (λ j. eqb j 22) 22 in omega arith;
      all-pending = λ h. let z : ◌≡◌ {A = ℕ} 1 3 = h (sides 5 5 5) unmarked [] (λ j. true) 62 in omega arith;
    }
  where
    groups-of-two-and-one : List ℤ
    groups-of-two-and-one = set (set (set (replicate 63 (pos 5)) 29 (negsuc 4)) 30 (negsuc 4)) 32 (negsuc 4)

    edge : List ℤ
    edge = set (set (replicate 48 (pos 6)) 21 (negsuc 5)) 26 (negsuc 5)

-- ---- the machine

-- the bar at rest, and which of its voxels is woken
row : List ℕ
row = replicate 21 0 ++ (1 ∷ 1 ∷ 1 ∷ []) ++ replicate 21 0

any-voxel : ℕ → Bool
any-voxel j = true

-- 5, 5, 3: nine voxels, of which the middle, 37, closes a ring
ring : List ℕ
ring = replicate 31 0 ++ (1 ∷ 1 ∷ 1 ∷ 0 ∷ 0 ∷ 1 ∷ 1 ∷ 1 ∷ 0 ∷ 0 ∷ 1 ∷ 1 ∷ 1 ∷ []) ++ replicate 31 0

-- 7, 3, 3: five voxels in a row, the three inner ones pending: each fails, and the last of them is the farthest
long-bar : State
long-bar =
    state (new_record (sides 7 3 3) 1) (set (replicate 63 (pos 1)) 32 (pos 2)) (replicate 29 0 ++ (1 ∷ 3 ∷ 3 ∷ 3 ∷ 1 ∷ []) ++ replicate 29 0)

-- a voxel's status after a removal by another rule is another
status-differs : (i : ℕ) (x y : List ℕ) → (status_of x i ≡ status_of y i → ⊥) → x ≡ y → ⊥
status-differs i x y f e = f (ap (λ (status : List ℕ). status_of status i) e)

-- another voxel comes first
another : (i j : ℕ) → (i ≡ j → ⊥) → Some i ≡ Some j → ⊥
another i j f e = f (ap the_voxel e)

pub wrong-steps : WrongSteps
unfolding all-rules last_foremost first_failed row any-voxel ring long-bar
wrong-steps =
    record {
      k-alone = λ h. true≢false (sym (h (sides 5 5 3) any-voxel ring 37));
      m-alone = λ h. true≢false (sym (h (sides 5 3 3) any-voxel row 22));
      pinned-goes = λ h. true≢false (sym (h (sides 5 3 3) (λ j. false) row 21));
      wakes-nobody = λ h. status-differs 22 _ _ (λ e. let z : ◌≡◌ {A = ℕ} 3 1 = e in omega arith) (h (sides 5 3 3) any-voxel row 21);
      wakes-by-faces = λ h.
          status-differs 26 _ _ (λ e. let z : ◌≡◌ {A = ℕ} 3 1 = e in omega arith) (h (sides 4 4 3) any-voxel (set (set (replicate 48 0) 21 1) 26 1) 21);
      wakes-all = λ h. status-differs 23 _ _ (λ e. let z : ◌≡◌ {A = ℕ} 1 3 = e in omega arith) (h (sides 5 3 3) any-voxel row 21);
      wakes-inside = λ h. status-differs 22 _ _ (λ e. let z : ◌≡◌ {A = ℕ} 1 3 = e in omega arith) (h (sides 5 3 3) (λ j. eqb j 21) row 21);
      opens-behind-the-surface = λ h. true≢false (h (sides 5 3 3) any-voxel row 21);
      opens-anywhere = λ h. true≢false (sym (h (sides 5 5 5) any-voxel (replicate 125 1) 62));
      later-of-equals = λ h. another 1 2 (λ e. omega arith) (h (λ i j. false) (1 ∷ 2 ∷ []));
      opens-first-failure = λ h. another 32 30 (λ e. omega arith) (h (mark_at (sides 7 3 3) 30 2) 3 long-bar);
    }

-- ---- answers

pub wrong-answers : WrongAnswers
unfolding all-rules
wrong-answers =
    record {
      examinations-as-removals = λ h. let z : ◌≡◌ {A = ℕ} 1 0 = h (no_marks (sides 5 3 3)) 9 (bar (replicate 45 (pos 1))) _ refl in omega arith;
      euler-unchanged = λ h.
          let z : ◌≡◌ {A = ℕ} 2 1 = ap nat_abs (h (mark_at (sides 5 3 3) 21 1) (carved_to 9 (bar (replicate 45 (pos 1)))) _ refl) in
          omega arith;
    }
