-- What rejects each wrong machine, by computation.
use mathlib.Core.Path.{◌≡◌, refl, ap, sym}
use mathlib.Core.Bool.{Bool, true, true≢false}
use mathlib.Core.List.{List, []}
use Rattle.std.specs.Prelude.{Some}
use Prim.Native.Nat.{ℕ}
use native.Mathlib.Omega.{arith}
use lib.Dec.{eqb}
use lib.ListN.{replicate}
use lib.IntN.{ℤ, pos, negsuc, nat_abs}
use Rattle.rules.specs.declared.Record.{Record}
use Rattle.rules.specs.declared.Carving.{Carving}
use Rattle.rules.specs.Answer.{Outcome, Buffers}
use Rattle.rules.specs.Status.{status_of}
use Rattle.rules.specs.Marks.{marked, unmarked, no_marks}
use Rattle.rules.specs.PinFirst.{marked_before, begin_by, carve_by}
use Rattle.rules.specs.Begin.{begin}
use Rattle.rules.specs.Machine.{State, the_voxel, carve, open_next, finish}
use Rattle.rules.specs.Body as body
use Rattle.rules.specs.Body.{body_of, covered, sum, sum3, corners, edges, faces, cubes, euler_of}
use Rattle.rules.specs.Grid.{missing, distance_at}
use Rattle.rules.specs.Faces.{faces_of}
use Rattle.rules.specs.Cases.{sides, plain_take, carved_to, values_d, case_d, bar, cube, wall, mark_at, mark_d, begun_d, bar_of, mark_bar}
use Rattle.rules.specs.Wrong.{carving_by, only_clears, by_kalone, drops_failed, by_face_groups, invents, WrongMachines, MachineAnswers}
use Rattle.rules.specs.Wrong.{begin_writing, take_writing, WrongRefusals}
use Rattle.rules.specs.Wrong.{fills_by, walled_in, off_border, WrongFills, carve_otherwise, WrongMarks, WrongThrees, WrongLast}
use Rattle.rules.proofs.Answers.{apart, answers, same_answer}
use Rattle.rules.proofs.Fill.{filled-is-enclosed}
use Rattle.rules.proofs.Cases.{all-rules}

numbers-differ : (m n : ℕ) → pos m ≡ pos n → (m ≡ n → ⊥) → ⊥
numbers-differ m n e f = f (ap nat_abs e)

pub wrong-machines : WrongMachines
unfolding all-rules carving_by only_clears by_kalone drops_failed by_face_groups invents body_of body.some covered sum sum3 corners edges faces cubes euler_of
wrong-machines =
    record {
      only-clears = λ start begun calls same a d. true≢false (d.none_passes same refl 22 refl refl refl);
      k-alone = λ start begun calls same a d. numbers-differ 1 0 d.euler-of-body (λ e. omega arith);
      drops-failed = λ start begun calls same a d. true≢false (d.none_passes same refl 37 refl refl refl);
      face-groups = λ start begun calls same a d. true≢false (d.none_passes same refl 25 refl refl refl);
      invented-euler = λ start begun calls same a d. numbers-differ 2 1 d.euler-of-body (λ e. omega arith);
      invented-examination = λ start begun calls a z d. let e : ◌≡◌ {A = ℕ} 1 a.examined = d.examinations-count in omega arith;
    }

pub machine-answers : MachineAnswers
unfolding all-rules
machine-answers =
    record {
      begins = answers (λ values. (begin (sides 4 4 3) 0 values (no_marks (sides 4 4 3)) case_d.dist case_d.status).answer) values_d [] 2 refl refl;
      carves = answers (λ marks. (carve marks 1 case_d).answer) (no_marks (sides 4 4 3)) [] 2 refl refl;
      takes = answers (λ i. (plain_take i case_d).answer) 22 48 5 refl refl;
      opens = answers (λ marks. (open_next marks (carved_to 9 (bar (replicate 45 (pos 1))))).answer) (no_marks (sides 5 3 3)) (replicate 45 1) 15 refl refl;
      finishes = answers (λ limit. (finish (carved_to limit case_d)).answer) 2 0 13 refl refl;
      begins-otherwise = λ c h. let e : ◌≡◌ {A = ℕ} 0 1 = ap (λ (r : Record). r.allowed) (same_answer _ _ c (h 0) (h 1)) in omega arith;
      carves-otherwise = λ c h. let e : ◌≡◌ {A = ℕ} 0 1 = ap (λ (r : Carving). r.examined) (same_answer _ _ c (h 0) (h 1)) in omega arith;
    }

-- a voxel's status after a call by another rule is another
differs : {A : Type 0} (i : ℕ) (o p : Outcome Buffers A) → (status_of o.lent.status i ≡ status_of p.lent.status i → ⊥) → o ≡ p → ⊥
differs {A} i o p f e = f (ap (λ (o : Outcome Buffers A). status_of o.lent.status i) e)

-- 3, 3, 3: values that begin refuses with 4, and distances that it is lent
abbrev bodiless : List ℤ
bodiless = replicate 27 (pos 5)

abbrev ones : List ℤ
ones = replicate 27 (pos 1)

pub wrong-refusals : WrongRefusals
unfolding all-rules begin_writing take_writing
wrong-refusals =
    record {
      begin-clears = λ h.
          differs 0 _ _ (λ e. let z : ◌≡◌ {A = ℕ} 1 0 = e in omega arith) (h (sides 3 3 3) 0 bodiless (no_marks (sides 3 3 3)) ones (replicate 27 1));
      begin-writes-a-distance = λ h.
          let z : ◌≡◌ {A = ℕ} 1 0 =
          ap (λ (o : Outcome Buffers Record). nat_abs (distance_at o.lent.dist 0))
          (h (sides 3 3 3) 0 bodiless (no_marks (sides 3 3 3)) ones (replicate 27 1)) in
          omega arith;
      take-removes = λ h.
          differs 22 _ _ (λ e. let z : ◌≡◌ {A = ℕ} 3 0 = e in omega arith) (h (no_marks (sides 5 3 3)) 22 (bar (replicate 45 (pos 1))));
      begin-own = λ s T values marks dist status. refl;
      take_own = λ marks i g. refl;
    }

pub wrong-fills : WrongFills
unfolding all-rules fills_by walled_in off_border
wrong-fills =
    record {
      by-touching = λ h.
          let values = wall (negsuc 3) missing in
          true≢false (sym ((h (sides 5 5 5) values 62).1 ((filled-is-enclosed (sides 5 5 5) values 62).0 refl)));
      at-the-border = λ h.
          let values = cube missing (negsuc 4) missing in
          true≢false (sym ((filled-is-enclosed (sides 3 3 3) values 0).1 ((h (sides 3 3 3) values 0).0 refl)));
      beside-any-value = λ h.
          let values = wall (pos 0) (pos 4) in
          true≢false (sym ((filled-is-enclosed (sides 5 5 5) values 62).1 ((h (sides 5 5 5) values 62).0 refl)));
    }

-- ---- marks read by another rule

-- another voxel is opened
opens-another : (i j : ℕ) → (i ≡ j → ⊥) → Some i ≡ Some j → ⊥
opens-another i j f e = f (ap the_voxel e)

-- the bar at rest
resting : State
unfolding all-rules
resting = carved_to 9 (bar (replicate 45 (pos 1)))

-- one voxel alone
alone : ℕ → Bool
alone j = eqb j 22

pub wrong-marks : WrongMarks
unfolding all-rules carve_otherwise resting alone
wrong-marks =
    record {
      pins-hold-nothing = λ h. differs 22 _ _ (λ e. let z : ◌≡◌ {A = ℕ} 1 0 = e in omega arith) (h (mark_d 22 1) 9 (begun_d 22 1));
      opens-pinned = λ h. opens-another 22 21 (λ e. omega arith) (h (marked (mark_at (sides 5 3 3) 21 1)) resting);
      hurried-after-distance = λ h. differs 21 _ _ (λ e. let z : ◌≡◌ {A = ℕ} 0 3 = e in omega arith) (h (mark_bar 2 0) 1 (bar_of (pos 1) (pos 2)));
      hurried-by-index = λ h. differs 21 _ _ (λ e. let z : ◌≡◌ {A = ℕ} 3 0 = e in omega arith) (h (mark_bar 2 2) 1 (bar_of (pos 1) (pos 2)));
      hurries-unheard = λ h. differs 21 _ _ (λ e. let z : ◌≡◌ {A = ℕ} 0 3 = e in omega arith) (h (mark_bar 2 0) 1 (bar_of (pos 1) (pos 2)));
      opens-hurried-first = λ h. opens-another 21 22 (λ e. omega arith) (h (marked (mark_at (sides 5 3 3) 22 2)) resting);
      only-hurried-pending = λ h. let z : ◌≡◌ {A = ℕ} 3 1 = h (sides 5 3 3) unmarked [] alone 22 in omega arith;
      hurried-at-the-surface = λ h. let z : ◌≡◌ {A = ℕ} 3 1 = h (sides 5 3 3) (marked (replicate 45 2)) [] (λ j. true) 22 in omega arith;
      pinned-pending = λ h. let z : ◌≡◌ {A = ℕ} 1 3 = h (sides 5 3 3) (marked (replicate 45 1)) [] alone 22 in omega arith;
    }

-- ---- a mark of 3 read by another rule

pub wrong-threes : WrongThrees
unfolding all-rules marked_before begin_by carve_by resting
wrong-threes =
    record {
      begins-hurried = λ h.
          differs 22 _ _ (λ e. let z : ◌≡◌ {A = ℕ} 1 3 = e in omega arith) (h (sides 4 4 3) 0 values_d (mark_d 22 3) case_d.dist case_d.status);
      carves-hurried = λ h. differs 21 _ _ (λ e. let z : ◌≡◌ {A = ℕ} 3 1 = e in omega arith) (h (mark_bar 3 0) 1 (bar_of (pos 1) (pos 2)));
      begins-unpinned = λ h.
          differs 22 _ _ (λ e. let z : ◌≡◌ {A = ℕ} 1 3 = e in omega arith) (h (sides 4 4 3) 0 values_d (mark_d 22 3) case_d.dist case_d.status);
      carves-unpinned = λ h. differs 22 _ _ (λ e. let z : ◌≡◌ {A = ℕ} 1 0 = e in omega arith) (h (mark_d 22 3) 9 case_d);
      begin-accepts = λ n e. apart _ n _ refl (sym e);
      carve-accepts = λ n e. apart _ n _ refl (sym e);
      take-accepts = λ n e. apart _ n _ refl (sym e);
      open-accepts = λ n e. apart _ n _ refl (sym e);
    }

-- ---- the face of another removal

pub wrong-last : WrongLast
unfolding all-rules faces_of
wrong-last =
    record {
      first-removal = λ h. let e : ◌≡◌ {A = ℕ} 0 1 = h (no_marks (sides 4 4 3)) 2 case_d refl in omega arith;
      none-is-0 = λ h. let e : ◌≡◌ {A = ℕ} 6 0 = h (no_marks (sides 4 4 3)) 0 case_d refl in omega arith;
    }
