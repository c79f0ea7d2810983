-- What calls do to one voxel: gone, it stays gone; kept, it is not lost where every call pins it, refused ones aside.
use mathlib.Core.Path.{◌≡◌, refl, ap, ap₂, sym, ◌∙◌}
use mathlib.Core.Bool.{Bool, true, false, not, ◌&&◌, true≢false}
use mathlib.Core.List.{List, [], ◌∷◌}
use Rattle.std.specs.Prelude.{Option, None, Some}
use Prim.Native.Nat.{ℕ, zero, suc, ◌<◌}
use lib.Dec.{eqb}
use lib.ListN.{length, set}
use Rattle.cells.specs.Cells.{passes}
use Rattle.prelude.proofs.Bools.{and-true, and_zero, not-both}
use Rattle.rules.specs.declared.Sides.{Sides}
use Rattle.rules.specs.Grid.{size}
use Rattle.rules.specs.Answer.{untouched}
use Rattle.rules.specs.Begin.{exposed}
use Rattle.rules.specs.Status.{Progress, status_of, rested, is_kept, is_pending, removable, test_at, first_of, without, goes, examined_as}
use Rattle.rules.specs.Status.{examine, examining, carving, openable}
use Rattle.rules.specs.Marks.{marked}
use Rattle.rules.specs.Machine.{State, after, lent_to, outside, may_go, farther, sooner, marked_checks, take_checks, open_checks, finish_checks}
use Rattle.rules.specs.Machine.{carved, carve, taken, take, to_open, is_none, the_voxel, opened, open_next, finished_of, finish}
use Rattle.rules.specs.Choice.{Order}
use Rattle.rules.specs.Fit.{Marking, Openable}
use Rattle.rules.specs.Demand.{Call, carve_up_to, take_at, open_one, finish_it, is_refused, refuses, Lends, AllLend, call, run, PinnedAreKept, GoneStaysGone}
use Rattle.rules.proofs.Checks.{by-checks}
use Rattle.rules.proofs.Foremost.{farther-order, sooner-order, first-foremost}
use Rattle.rules.proofs.Fit as checked
use Rattle.rules.proofs.Topology.Surface.{omit, true-omit}
use Rattle.rules.proofs.Topology.Steps.{length_without, kept-without, length-stayed, kept-stayed}
use Rattle.rules.proofs.Demand.{all-lend-map, all-lend-any}

-- ---- one voxel, that is kept or gone as before says: kept, it may not go

-- as before, in a buffer of the grid's size
pub record Still (s : Sides) (j : ℕ) (before : Bool) (status : List ℕ) : Type 0 where
  pub lent : length status ≡ size s
  pub kept : is_kept status j ≡ before

still-omit : (p : ℕ → Bool) (i j : ℕ) (before : Bool) → p j ≡ before → (before ≡ true → j ≡ i → ⊥) → omit p i j ≡ before
unfolding omit
still-omit p i j true e n = true-omit p i j e (n refl)
still-omit p i j false e n = ap (λ (k : Bool). k && not (eqb j i)) e

module _ (s : Sides) (free : ℕ → Bool) (j : ℕ) (before : Bool) (stays : before ≡ true → free j ≡ false) where
  still-gone : (status : List ℕ) (i : ℕ) → free i ≡ true → Still s j before status → Still s j before (without s free status i)
  still-gone status i may k =
      record {
        lent = length_without s free status k.lent i;
        kept =
            ap (λ (p : ℕ → Bool). p j) (kept-without s free status k.lent i)
            ∙ still-omit (is_kept status) i j before k.kept (λ b e. not-both (free j) (ap free e ∙ may) (stays b));
      }

  still-rested : (status : List ℕ) (i : ℕ) → i < size s → is_pending status i ≡ true → Still s j before status
      → Still s j before (set status i (rested (status_of status i)))
  still-rested status i h p k =
      record { lent = length-stayed s status k.lent i h p; kept = ap (λ (p : ℕ → Bool). p j) (kept-stayed s status k.lent i h p) ∙ k.kept }

  still-examined : (status : List ℕ) (i : ℕ) → i < size s → is_pending status i ≡ true → Still s j before status → Still s j before (examine s free status i)
  unfolding examine goes
  still-examined status i h p k = go (passes (test_at s status i) && free i) refl
    where
      go : (t : Bool) → (passes (test_at s status i) && free i) ≡ t → Still s j before (examined_as t s free status i)
      go true e = still-gone status i (and-true (passes (test_at s status i)) (free i) e).1 k
      go false e = still-rested status i h p k

  pub still-carving : (ahead : ℕ → ℕ → Bool) → Order ahead → (limit : ℕ) (status : List ℕ) → Still s j before status
      → Still s j before (carving s free ahead limit status).status
  unfolding carving
  still-carving ahead order zero status k = k
  still-carving ahead order (suc limit) status k =
      go (first_of s ahead (is_pending status)) refl (λ i. still-carving ahead order limit (examine s free status i))
    where
      next : Option ℕ → Progress
      next o = examining s free status (λ i. carving s free ahead limit (examine s free status i)) o

      go : (o : Option ℕ) → first_of s ahead (is_pending status) ≡ o
          → ((i : ℕ) → let after = examine s free status i in Still s j before after → Still s j before (carving s free ahead limit after).status)
          → Still s j before (next o).status
      go None e rest = k
      go (Some i) e rest =
          let first = first-foremost s ahead order (is_pending status) i e in
          rest i (still-examined status i first.below first.chosen k)

-- ---- each call

module _ (j : ℕ) (before : Bool) (g : State) (k : is_kept g.status j ≡ before) where
  abbrev s : Sides
  s = g.rec.sides

  still-now : (marks : List ℕ) → Marking marks g → Still s j before g.status
  still-now marks w = record { lent = w.working.fit.voxels.lent.statuses; kept = k }

  -- a call that pins the voxel, if it is kept
  abbrev Pins : List ℕ → Type 0
  Pins marks = before ≡ true → (marked marks).pinned j ≡ true

  pinned-stays : (marks : List ℕ) → Pins marks → before ≡ true → may_go (marked marks) g.dist j ≡ false
  unfolding may_go
  pinned-stays marks p b = ap (λ (t : Bool). outside g.dist j && not t) (p b) ∙ and_zero (outside g.dist j)

  call-still : (c : Call) → (refuses g c ≡ false → Lends Pins c) → is_kept (call c g).end.status j ≡ before
  unfolding call refuses carve carved take taken open_next finish finished_of
  call-still (carve_up_to marks limit) =
      let m = marked marks in
      let free = may_go m g.dist in
      let ahead = sooner m g.dist in
      by-checks (untouched (lent_to g)) (carved free ahead limit g)
      (λ o. (is_refused o.answer ≡ false → Pins marks) → is_kept o.lent.status j ≡ before) (marked_checks marks g) (λ n p. k)
      (λ h p. let w = checked.marking g marks h in
      (still-carving s free j before (pinned-stays marks (p refl)) ahead (sooner-order m g.dist) limit g.status (still-now marks w)).kept)
  call-still (take_at marks i) =
      let m = marked marks in
      let free = may_go m g.dist in
      by-checks (untouched (lent_to g)) (taken free i g)
      (λ o. (is_refused o.answer ≡ false → Pins marks) → is_kept o.lent.status j ≡ before) (take_checks marks i g) (λ n p. k)
      (λ h p. let t = checked.takeable g marks i h in
      (still-gone s free j before (pinned-stays marks (p refl)) g.status i
      (unfold may_go outside in ap₂ (λ (x y : Bool). not x && not y) t.outer t.unpinned) (still-now marks t.marking)).kept)
  call-still (open_one marks) =
      by-checks (untouched (lent_to g)) (opened free (the_voxel (to_open free g)) g)
      (λ o. (is_refused o.answer ≡ false → Pins marks) → is_kept o.lent.status j ≡ before) (open_checks marks g) (λ n p. k)
      (λ h p. through (p (unfold opened in refl)) (checked.openable g marks h) (to_open free g) refl)
    where
      free : ℕ → Bool
      free = may_go (marked marks) g.dist

      through : Pins marks → Openable marks g → (o : Option ℕ) → to_open free g ≡ o → is_kept (opened free (the_voxel o) g).lent.status j ≡ before
      through p w None e = absurd (true≢false (ap is_none (sym e) ∙ w.found))
      through p w (Some i) e =
          unfold opened in
          let first = first-foremost s (farther g.dist) (farther-order g.dist) (openable s free g.status) i (unfold to_open in e) in
          let o = and-true (removable free g.status i) (exposed s (is_kept g.status) i) (unfold openable in first.chosen) in
          let r = and-true (is_kept g.status i) (free i) (unfold removable in o.0) in
          (still-gone s free j before (pinned-stays marks p) g.status i r.1 (still-now marks w.marking)).kept
  call-still finish_it =
      λ p. by-checks (untouched (lent_to g)) (finished_of g) (λ o. is_kept o.lent.status j ≡ before) (finish_checks g) (λ n. k) (λ h. k)

-- ---- any list of calls

run-still : (j : ℕ) (before : Bool) (g : State) → is_kept g.status j ≡ before → (calls : List Call)
    → AllLend (λ marks. before ≡ true → (marked marks).pinned j ≡ true) g calls → is_kept (run calls g).end.status j ≡ before
unfolding run
run-still j before g k [] p = k
run-still j before g k (c ∷ cs) p = run-still j before (call c g).end (call-still j before g k c p.0) cs p.1

pub pinned-are-kept : PinnedAreKept
pinned-are-kept g i k calls p =
    run-still i true g k calls
    (all-lend-map (λ marks. (marked marks).pinned i ≡ true) (λ marks. true ≡ true → (marked marks).pinned i ≡ true) (λ marks e t. e) calls g p)

pub gone-stays-gone : GoneStaysGone
gone-stays-gone g i k calls =
    run-still i false g k calls
    (all-lend-map (λ marks. Unit {0}) (λ marks. false ≡ true → (marked marks).pinned i ≡ true) (λ marks u e. not-both false e refl) calls g
    (all-lend-any calls g))
