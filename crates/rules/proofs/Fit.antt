-- What the checks of each call give where none fails, by name.
use mathlib.Core.Path.{◌≡◌, refl, sym, ap, ap₂, ◌∙◌}
use mathlib.Core.Logic.{inl, inr, ⊎_elim}
use mathlib.Core.Bool.{Bool, true, false, not, ◌&&◌, ◌||◌}
use mathlib.Core.List.{List, ◌++◌}
use Prim.Native.Nat.{ℕ, ◌*◌, ◌≤◌, ◌<◌}
use native.Mathlib.Omega.{arith}
use native.Mathlib.Decide.{dec_lt}
use borrow.Author.Tests.{ltb-true, ltb-false, lt-ltb, le-ltb, leb-false, eqb-true, eqb-false, eq-eqb}
use lib.Dec.{eqb, ltb}
use lib.IntN.{ℤ, pos}
use lib.ListN.{length, get_or-eq_default}
use Rattle.cells.specs.Groups.{any}
use Rattle.prelude.proofs.Bools.{and-true, true-and, or-true, or-false, not-false, not-both, two}
use Rattle.prelude.proofs.Lists.{none-at}
use Rattle.rules.specs.declared.Sides.{Sides}
use Rattle.rules.specs.declared.Record.{Record}
use Rattle.rules.specs.Value.{missing, is_missing, beyond, stray}
use Rattle.rules.specs.Grid.{fit_sides, size, range, voxels, on_border, is_negative, measured_negative, value_at}
use Rattle.rules.specs.Checks.{AllHold}
use Rattle.rules.specs.Begin.{begin_checks}
use Rattle.rules.specs.Status.{status_of}
use Rattle.rules.specs.Marks.{marked, stray_mark, wrong_marks}
use Rattle.rules.specs.Machine.{State, is_inside, may_go, unfit_counts, unfit_voxel, unfit, wrong_length, state_checks, working_checks, marked_checks}
use Rattle.rules.specs.Machine.{finished_checks, voxel_checks, take_checks, quiet_checks, opening_checks, open_checks, finish_checks}
use Rattle.rules.specs.Fit.{Beginnable, Lent, Known, FitVoxels, FitState, Working, Marking, Ended, Takeable, Quiet, Openable}
use Rattle.prelude.proofs.Ranges.{any_below, none_below, below_none}
use Rattle.rules.proofs.Boxes.{checked-border}
use Rattle.rules.proofs.Checks.{hold-append, fails_at, held_at}

-- ---- begin

-- what its checks ask of the values
module _ (s : Sides) (values : List ℤ) where
  pub beginnable-by : fit_sides s ≡ true → length values ≡ size s → any stray values ≡ false
      → any (λ i. on_border s i && measured_negative (value_at values i)) (voxels s) ≡ false
      → any (λ i. measured_negative (value_at values i)) (voxels s) ≡ true → Beginnable s values
  unfolding voxels
  beginnable-by sides len known border some =
      let v = any_below (λ i. measured_negative (value_at values i)) (size s) some in
      record {
        sides = sides;
        len = len;
        known = known;
        border = checked-border s values border;
        some = v.0;
        some-negative = true-and (ltb v.0 (size s)) (measured_negative (value_at values v.0)) (lt-ltb v.0 (size s) v.1) v.2;
      }

-- 2: each length
pub record SameLength (n : ℕ) (values : List ℤ) (marks : List ℕ) (dist : List ℤ) (status : List ℕ) : Type 0 where
  pub values_len : length values ≡ n
  pub dist-len : length dist ≡ n
  pub status-len : length status ≡ n
  pub marks-len : length marks ≡ n

module _ (s : Sides) (values : List ℤ) (marks : List ℕ) (dist : List ℤ) (status : List ℕ) (h : AllHold (begin_checks s values marks dist status)) where
  begin-held : (n : ℕ) → fails_at n (begin_checks s values marks dist status) ≡ false
  begin-held = held_at (begin_checks s values marks dist status) h

  pub begin-lengths : SameLength (size s) values marks dist status
  unfolding wrong_marks
  begin-lengths =
      let l = or-false (not (eqb (length values) (size s) && (eqb (length dist) (size s) && eqb (length status) (size s)))) _ (begin-held 2) in
      let v = and-true (eqb (length values) (size s)) _ (not-false _ l.0) in
      let b = and-true (eqb (length dist) (size s)) (eqb (length status) (size s)) v.1 in
      record {
        values_len = eqb-true _ _ v.0;
        dist-len = eqb-true _ _ b.0;
        status-len = eqb-true _ _ b.1;
        marks-len = eqb-true _ _ (not-false _ l.1);
      }

  pub begin-marks : stray_mark marks ≡ false
  begin-marks = begin-held 29

  pub beginnable : Beginnable s values
  beginnable =
      beginnable-by s values (not-false (fit_sides s) (begin-held 1)) begin-lengths.values_len (begin-held 28) (begin-held 3)
      (not-false _ (begin-held 4))

-- past the end of the buffer the value is missing
pub none-stray : (values : List ℤ) → any stray values ≡ false → (i : ℕ) → stray (value_at values i) ≡ false
unfolding beyond is_missing
none-stray values e i =
    elim (dec_lt i (length values)) [
      | yes h ↦ none-at stray missing values e i h
      | no h ↦ let past : length values ≤ i = omega arith in rw (get_or-eq_default values missing past)
    ]

-- ---- number 7 at a voxel

module _ (s : Sides) (dist : List ℤ) (status : List ℕ) where
  module _ (i : ℕ) (e : unfit_voxel s dist status i ≡ false) where
    abbrev x : ℕ
    x = status_of status i

    -- the clauses
    clauses : (not (eqb x 0 || (eqb x 1 || eqb x 3)) ≡ false)
        × ((on_border s i && not (eqb x 0)) ≡ false) × ((is_inside dist i && not (eqb x 1)) ≡ false)
    unfolding unfit_voxel
    clauses =
        let p = or-false (not (eqb x 0 || (eqb x 1 || eqb x 3))) _ e in
        let q = or-false (on_border s i && not (eqb x 0)) _ p.1 in
        (p.0, q.0, q.1)

    fit-known : Known x
    fit-known =
        elim (or-true (eqb x 0) _ (not-false _ clauses.0)) [
          | inl a ↦ inl (eqb-true x 0 a)
          | inr b ↦ inr (⊎_elim (λ a. inl (eqb-true x 1 a)) (λ a. inr (eqb-true x 3 a)) (or-true (eqb x 1) (eqb x 3) b))
        ]

    fit-border : on_border s i ≡ true → x ≡ 0
    fit-border b = eqb-true x 0 (not-false (eqb x 0) (ap (λ (u : Bool). u && not (eqb x 0)) (sym b) ∙ clauses.1))

    fit-inner : is_inside dist i ≡ true → x ≡ 1
    fit-inner b = eqb-true x 1 (not-false (eqb x 1) (ap (λ (u : Bool). u && not (eqb x 1)) (sym b) ∙ clauses.2))

  -- past the end of the buffers the status is 0, and so is the distance
  pub fit-voxels : Lent s dist status → ((i : ℕ) → i < size s → unfit_voxel s dist status i ≡ false) → FitVoxels s dist status
  fit-voxels lent fits =
      record {
        lent = lent;
        known =
            λ i.
            elim (two (ltb i (size s))) [
              | inl e ↦ fit-known i (fits i (ltb-true _ _ e))
              | inr e ↦ inl (let h : length status ≤ i = omega (arith, lent.statuses, ltb-false i (size s) e) in get_or-eq_default status 0 h)
            ];
        border = λ i h. fit-border i (fits i h);
        inner =
            λ i b.
            elim (two (ltb i (size s))) [
              | inl e ↦ fit-inner i (fits i (ltb-true _ _ e)) b
              | inr e ↦ not-both (is_inside dist i) b (beyond i (omega (arith, lent.distances, ltb-false i (size s) e)))
            ];
      }
    where
      beyond : (i : ℕ) → length dist ≤ i → is_inside dist i ≡ false
      beyond i h = unfold is_inside in ap is_negative (get_or-eq_default dist (pos 0) h)

-- ---- the state

module _ (g : State) where
  abbrev r : Record
  r = g.rec

  abbrev n : ℕ
  n = size g.rec.sides

  pub lent-to : fit_sides r.sides ≡ true → wrong_length g ≡ false → Lent r.sides g.dist g.status
  unfolding wrong_length
  lent-to e f =
      let l = and-true (eqb (length g.dist) n) (eqb (length g.status) n) (not-false _ f) in
      record { sides = e; distances = eqb-true _ _ l.0; statuses = eqb-true _ _ l.1 }

  state-fit : fit_sides r.sides ≡ true → wrong_length g ≡ false → unfit g ≡ false → FitState g
  unfolding unfit unfit_counts voxels
  state-fit sides lengths fits =
      let u = or-false (unfit_counts r) (any (unfit_voxel r.sides g.dist g.status) (range 0 n)) fits in
      let a = or-false (ltb r.allowed r.openings) _ u.0 in
      let b = or-false (ltb n r.removals) _ a.1 in
      let c = or-false (ltb (27 * n) r.examinations) _ b.1 in
      record {
        voxels = fit-voxels r.sides g.dist g.status (lent-to sides lengths) (none_below _ n u.1);
        openings = ltb-false _ _ a.0;
        removals = ltb-false _ _ b.0;
        examinations = ltb-false _ _ c.0;
        euler = ltb-false _ _ c.1;
      }

  pub fit-state : AllHold (state_checks g) → FitState g
  fit-state h = let held = held_at (state_checks g) h in state-fit (not-false _ (held 1)) (held 2) (held 7)

  pub working : AllHold (working_checks g) → Working g
  working h =
      let held = held_at (working_checks g) h in
      record { fit = state-fit (not-false _ (held 1)) (held 2) (held 7); unfinished = held 8 }

  pub ended : AllHold (finished_checks g) → Ended g
  ended h =
      let held = held_at (finished_checks g) h in
      record { fit = state-fit (not-false _ (held 1)) (held 2) (held 7); finished = not-false _ (held 9) }

  pub marking : (marks : List ℕ) → AllHold (marked_checks marks g) → Marking marks g
  unfolding wrong_marks
  marking marks h =
      let held = held_at (marked_checks marks g) h in
      let l = or-false (wrong_length g) (wrong_marks r.sides marks) (held 2) in
      record {
        working = record { fit = state-fit (not-false _ (held 1)) l.0 (held 7); unfinished = held 8 };
        lent = eqb-true _ _ (not-false _ l.1);
        known = held 29;
      }

  pub takeable : (marks : List ℕ) (i : ℕ) → AllHold (take_checks marks i g) → Takeable marks i g
  takeable marks i h =
      let held = held_at (take_checks marks i g) h in
      record {
        marking = marking marks (hold-append (marked_checks marks g) (voxel_checks (marked marks) i g) h).0;
        below = leb-false n i (held 5);
        kept = not-false _ (held 10);
        outer = held 11;
        unpinned = held 30;
        passing = not-false _ (held 12);
      }

  pub quiet : AllHold (finish_checks g) → Quiet g
  quiet h =
      record { working = working (hold-append (working_checks g) (quiet_checks g) h).0; quiet = held_at (finish_checks g) h 13 }

  pub openable : (marks : List ℕ) → AllHold (open_checks marks g) → Openable marks g
  openable marks h =
      let held = held_at (open_checks marks g) h in
      let m = marking marks (hold-append (marked_checks marks g) (quiet_checks g ++ opening_checks (may_go (marked marks) g.dist) g) h).0 in
      record {
        marking = m;
        quiet = record { working = m.working; quiet = held 13 };
        left = eqb-false _ _ (held 14);
        found = held 15;
      }

-- ---- and a state that is fit passes checks 1, 2 and 7

module _ (s : Sides) (dist : List ℤ) (status : List ℕ) (fit : FitVoxels s dist status) where
  known-test : (x : ℕ) → Known x → not (eqb x 0 || (eqb x 1 || eqb x 3)) ≡ false
  known-test x (inl e) = ap (λ (n : ℕ). not (eqb n 0 || (eqb n 1 || eqb n 3))) e
  known-test x (inr (inl e)) = ap (λ (n : ℕ). not (eqb n 0 || (eqb n 1 || eqb n 3))) e
  known-test x (inr (inr e)) = ap (λ (n : ℕ). not (eqb n 0 || (eqb n 1 || eqb n 3))) e

  -- a clause of number 7 that has a condition
  under : (p : Bool) (x n : ℕ) → (p ≡ true → x ≡ n) → (p && not (eqb x n)) ≡ false
  under true x n h = ap not (eq-eqb x n (h refl))
  under false x n h = refl

  fit-voxel : (i : ℕ) → i < size s → unfit_voxel s dist status i ≡ false
  unfolding unfit_voxel
  fit-voxel i h =
      ap₂ ◌||◌ (known-test (status_of status i) (fit.known i))
      (ap₂ ◌||◌ (under (on_border s i) (status_of status i) 0 (fit.border i h)) (under (is_inside dist i) (status_of status i) 1 (fit.inner i)))

pub state-fits : (g : State) → FitState g → AllHold (state_checks g)
unfolding unfit unfit_counts wrong_length voxels
state-fits g fit =
    let s = g.rec.sides in
    let lent = fit.voxels.lent in (
      ap not lent.sides,
      (
        ap₂ (λ (p q : Bool). not (p && q)) (eq-eqb _ _ lent.distances) (eq-eqb _ _ lent.statuses),
        (
          ap₂ ◌||◌
              (ap₂ ◌||◌ (le-ltb _ _ fit.openings)
              (ap₂ ◌||◌ (le-ltb _ _ fit.removals) (ap₂ ◌||◌ (le-ltb _ _ fit.examinations) (le-ltb _ _ fit.euler))))
              (below_none _ (size s) (fit-voxel s g.dist g.status fit.voxels)),
          tt,
        ),
      ),
    )

-- and, with marks of its size that are known, 29 and 8 too
pub marking-holds : (marks : List ℕ) (g : State) → Marking marks g → AllHold (marked_checks marks g)
unfolding wrong_marks
marking-holds marks g w =
    let h = state-fits g w.working.fit in (
      h.0,
      (
        ap₂ ◌||◌ h.1.0 (ap not (eq-eqb _ _ w.lent)),
        (h.1.1.0, (w.known, (w.working.unfinished, tt))),
      ),
    )
