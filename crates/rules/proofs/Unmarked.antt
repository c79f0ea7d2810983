-- With marks all 0 every call is as before.
use mathlib.Core.Path.{◌≡◌, refl, ap, ap₂, ◌∙◌, fun_ext}
use mathlib.Core.Bool.{Bool, true, false, not, cond, ◌&&◌, ◌||◌}
use mathlib.Core.List.{List, [], ◌∷◌, ◌++◌}
use Rattle.std.specs.Prelude.{Option, None, Some}
use Prim.Native.Nat.{ℕ, zero, suc}
use lib.Dec.{ltb, eqb}
use lib.ListN.{length, replicate, length-replicate}
use lib.IntN.{ℤ, pos}
use borrow.Author.Tests.{eq-eqb}
use Rattle.cells.specs.Groups.{any}
use Rattle.cells.specs.Cells.{passes}
use Rattle.prelude.proofs.Bools.{and_one, or-zero}
use Rattle.rules.specs.declared.Sides.{Sides}
use Rattle.rules.specs.declared.Record.{Record}
use Rattle.rules.specs.Value.{stray}
use Rattle.rules.specs.Grid.{fit_sides, size, voxels, on_border, measured_negative, value_at}
use Rattle.rules.specs.Checks.{Check, ◌when◌, unless, AllHold}
use Rattle.rules.specs.declared.Carving.{Carving}
use Rattle.rules.specs.Answer.{done, Outcome, outcome, untouched, Buffers, buffers}
use Rattle.rules.specs.Marks.{Marked, mark_of, pinned_mark, hurried_mark, marked, stray_mark, wrong_marks, unmarked, no_marks}
use Rattle.rules.specs.Begin.{waits_first, status_at, start_status, begun_on, begun, begin}
use Rattle.rules.specs.Status.{is_pending, any_pending, test_at, first_of, goes, examined_as, examine, Progress, progress, counted, examining, carving}
use Rattle.rules.specs.Machine.{State, lent_to, is_inside, outside, may_go, farther, sooner, count, unfit, wrong_length, marked_checks, working_checks}
use Rattle.rules.specs.Machine.{carved, carve, voxel_checks, taken, take, to_open, the_voxel, quiet_checks, opening_checks, opened, open_next}
use Rattle.rules.specs.Fit.{FitVoxels}
use Rattle.rules.specs.Unmarked.{begin_before, carving_before, carve_before, take_before, open_before, AsBefore}
use Rattle.rules.proofs.Foremost.{farther-order, first-foremost}
use Rattle.rules.proofs.Fit.{working}
use Rattle.rules.proofs.FitKept.{pending-outside, fit-examined}

-- ---- marks all 0

none-stray-mark : (n : ℕ) → any (ltb 3) (replicate n 0) ≡ false
unfolding any
none-stray-mark zero = refl
none-stray-mark (suc n) = none-stray-mark n

zero-mark : (n i : ℕ) → mark_of (replicate n 0) i ≡ 0
zero-mark zero i = refl
zero-mark (suc n) zero = refl
zero-mark (suc n) (suc i) = zero-mark n i

module _ (s : Sides) where
  no_stray : stray_mark (no_marks s) ≡ false
  unfolding stray_mark no_marks
  no_stray = none-stray-mark (size s)

  right-length : wrong_marks s (no_marks s) ≡ false
  unfolding wrong_marks no_marks
  right-length = ap not (eq-eqb _ _ (length-replicate (size s) 0))

  none-marked : marked (no_marks s) ≡ unmarked
  unfolding marked no_marks pinned_mark hurried_mark
  none-marked = λ n. record { pinned = λ i. pinned_mark (zero-mark (size s) i n); hurried = λ i. hurried_mark (zero-mark (size s) i n) }

module _ (s : Sides) (dist : List ℤ) where
  none-held : may_go (marked (no_marks s)) dist ≡ outside dist
  unfolding may_go
  none-held = fun_ext (λ i. ap (λ (m : Marked). outside dist i && not (m.pinned i)) (none-marked s) ∙ and_one (outside dist i))

  none-sooner : sooner (marked (no_marks s)) dist ≡ farther dist
  unfolding sooner
  none-sooner = λ n i j. let h = (none-marked s n).hurried in cond (h i) (not (h j) || farther dist i j) (not (h j) && farther dist i j)

-- marks that are all 0 are as none at all: what a call may hand on in their place
pub marked-none : (marks : List ℕ) → ((i : ℕ) → mark_of marks i ≡ 0) → marked marks ≡ marked []
unfolding marked
marked-none marks all = λ n. record { pinned = λ i. pinned_mark (all i n); hurried = λ i. hurried_mark (all i n) }

-- ---- the checks

module _ {R : Type 0} (refuse : ℕ → R) (work : R) (g : State) where
  -- with marks all 0 their length is right, and 29 holds
  marks-hold : (rest : List Check) → unless (marked_checks (no_marks g.rec.sides) g ++ rest) refuse work ≡ unless (working_checks g ++ rest) refuse work
  unfolding unless
  marks-hold rest =
      ap₂ (λ (p q : Bool).
      unless (1 when not (fit_sides g.rec.sides) ∷ 2 when p ∷ 7 when unfit g ∷ 29 when q ∷ 8 when g.rec.finished ∷ rest) refuse work)
      (ap (λ (t : Bool). wrong_length g || t) (right-length g.rec.sides) ∙ or-zero (wrong_length g)) (no_stray g.rec.sides)

-- what is done where no check fails
unless-same : {R : Type 0} (refuse : ℕ → R) (p q : R) (cs : List Check) → (AllHold cs → p ≡ q) → unless cs refuse p ≡ unless cs refuse q
unfolding unless
unless-same refuse p q [] h = h tt
unless-same refuse p q (c ∷ cs) h = go c.fails refl (λ h. unless-same refuse p q cs h)
  where
    go : (t : Bool) → c.fails ≡ t → ((AllHold cs → p ≡ q) → unless cs refuse p ≡ unless cs refuse q)
        → cond t (refuse c.number) (unless cs refuse p) ≡ cond t (refuse c.number) (unless cs refuse q)
    go true e rest = refl
    go false e rest = rest (λ a. h (e, a))

-- ---- a pending voxel of fit bytes is outside S, so it goes where it passes

module _ (s : Sides) (dist : List ℤ) where
  abbrev free : ℕ → Bool
  free = outside dist

  inside-stays : (j : ℕ) → is_inside dist j ≡ true → free j ≡ false
  unfolding outside
  inside-stays j e = ap not e

  same-carving : (limit : ℕ) (status : List ℕ) → FitVoxels s dist status → carving s free (farther dist) limit status ≡ carving_before s dist limit status
  unfolding carving carving_before examine goes
  same-carving zero status fit = refl
  same-carving (suc limit) status fit = go (first_of s (farther dist) (is_pending status)) refl (λ i. same-carving limit (examine s free status i))
    where
      passed : ℕ → Bool
      passed i = passes (test_at s status i)

      by : ℕ → Bool → Progress
      by i u = counted u (test_at s status i).face (carving_before s dist limit (examined_as u s free status i))

      now : Option ℕ → Progress
      now o = examining s free status (λ i. carving s free (farther dist) limit (examine s free status i)) o

      before : Option ℕ → Progress
      before o = elim o [ None ↦ progress 0 0 6 status | Some i ↦ by i (passed i) ]

      go : (o : Option ℕ) → first_of s (farther dist) (is_pending status) ≡ o
          → ((i : ℕ) → let next = examine s free status i in FitVoxels s dist next → carving s free (farther dist) limit next ≡ carving_before s dist limit next)
          → now o ≡ before o
      go None e rest = refl
      go (Some i) e rest =
          let first = first-foremost s (farther dist) (farther-order dist) (is_pending status) i e in
          let goes_on : goes s free status i ≡ passed i =
          ap (λ (u : Bool). passed i && u) (pending-outside s dist status fit i first.chosen) ∙ and_one (passed i) in
          ap (counted (goes s free status i) (test_at s status i).face)
          (rest i (fit-examined s dist status fit i first.below first.chosen free inside-stays))
          ∙ ap (by i) goes_on

-- ---- the calls

begun-before : (s : Sides) (T : ℕ) (values dist : List ℤ) (status : List ℕ) → begin s T values (no_marks s) dist status ≡ begin_before s T values dist status
unfolding begin begun begun_on begin_before start_status status_at waits_first unless
begun-before s T values dist status =
    ap₂ (λ (p q : Bool).
    unless (
    1 when not (fit_sides s)
    ∷ 2 when p
    ∷ 28 when any stray values
    ∷ 29 when q
    ∷ 3 when any (λ i. on_border s i && measured_negative (value_at values i)) (voxels s)
    ∷ 4 when not (any (λ i. measured_negative (value_at values i)) (voxels s))
    ∷ []
    ) (untouched (buffers dist status)) (begun s T values (marked (no_marks s))))
    (ap (λ (t : Bool). not (eqb (length values) (size s) && (eqb (length dist) (size s) && eqb (length status) (size s))) || t) (right-length s)
    ∙ or-zero (not (eqb (length values) (size s) && (eqb (length dist) (size s) && eqb (length status) (size s))))) (no_stray s)
    ∙ ap (λ (m : Marked). begin_with m) (none-marked s)
  where
    begin_with : Marked → Outcome Buffers Record
    begin_with m =
        unless (
        1 when not (fit_sides s)
        ∷ 2 when not (eqb (length values) (size s) && (eqb (length dist) (size s) && eqb (length status) (size s)))
        ∷ 28 when any stray values
        ∷ 3 when any (λ i. on_border s i && measured_negative (value_at values i)) (voxels s)
        ∷ 4 when not (any (λ i. measured_negative (value_at values i)) (voxels s))
        ∷ []
        ) (untouched (buffers dist status)) (begun s T values m)

carved-before : (limit : ℕ) (g : State) → carve (no_marks g.rec.sides) limit g ≡ carve_before limit g
unfolding carve carve_before
carved-before limit g =
    let s = g.rec.sides in
    let work = carved (outside g.dist) (farther g.dist) limit g in
    ap₂ (λ (free : ℕ → Bool) (ahead : ℕ → ℕ → Bool). unless (marked_checks (no_marks s) g) (untouched (lent_to g)) (carved free ahead limit g))
    (none-held s g.dist) (none-sooner s g.dist)
    ∙ marks-hold (untouched (lent_to g)) work g []
    ∙ unless-same (untouched (lent_to g)) work (report (carving_before s g.dist limit g.status)) (working_checks g)
    (λ h. unfold carved in ap report (same-carving s g.dist limit g.status (working g h).fit.voxels))
  where
    report : Progress → Outcome Buffers Carving
    report r =
        outcome
        (done (
        record {
          examined = r.examined;
          removed = r.removed;
          pending = any_pending g.rec.sides r.status;
          face = r.face;
          next = count g.rec r.examined r.removed 0 (pos 0);
        }
        ))
        (buffers g.dist r.status)

taken-before : (i : ℕ) (g : State) → take (no_marks g.rec.sides) i g ≡ take_before i g
unfolding take take_before unless
taken-before i g =
    let s = g.rec.sides in
    let refuse = untouched (lent_to g) in
    let work = taken (outside g.dist) i g in
    ap₂ (λ (m : Marked) (free : ℕ → Bool). unless (marked_checks (no_marks s) g ++ voxel_checks m i g) refuse (taken free i g))
    (none-marked s) (none-held s g.dist)
    ∙ marks-hold refuse work g (voxel_checks unmarked i g)

opened-before : (g : State) → open_next (no_marks g.rec.sides) g ≡ open_before g
unfolding open_next open_before
opened-before g =
    let s = g.rec.sides in
    let free = outside g.dist in
    ap (λ (free : ℕ → Bool).
    unless (marked_checks (no_marks s) g ++ (quiet_checks g ++ opening_checks free g)) (untouched (lent_to g)) (opened free (the_voxel (to_open free g)) g))
    (none-held s g.dist)
    ∙ marks-hold (untouched (lent_to g)) (opened free (the_voxel (to_open free g)) g) g (quiet_checks g ++ opening_checks free g)

pub as_before : AsBefore
as_before = record { begun = begun-before; carved = carved-before; taken = taken-before; opened = opened-before }
