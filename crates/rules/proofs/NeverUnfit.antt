-- No list of calls makes a begun grid unfit, and a carve that is long enough leaves nothing pending.
use mathlib.Core.Path.{◌≡◌, refl, ap, ap₂, sym, ◌∙◌, subst}
use mathlib.Core.Logic.{inl, inr}
use mathlib.Core.Bool.{Bool, true, false, not, cond, ◌&&◌, ◌||◌, true≢false}
use mathlib.Core.List.{List, [], ◌∷◌, map}
use Rattle.std.specs.Prelude.{Option, None, Some}
use Prim.Native.Nat.{ℕ, suc, ◌+◌, ◌*◌, ◌≤◌, ◌<◌}
use native.Mathlib.Omega.{arith}
use lib.IntN.{ℤ, pos, nat_abs, ◌+ℤ◌, ◌-ℤ◌, +ℤ_idr}
use lib.Dec.{eqb}
use lib.ListN.{length, get_or-eq_default}
use native.Mathlib.Decide.{dec_lt}
use borrow.Author.Tests.{ne_eqb}
use Rattle.cells.specs.Cells.{test}
use Rattle.closed_sets.proofs.EveryBlock.{k-few, m-few}
use Rattle.prelude.proofs.Bools.{and-true, not-both, two}
use Rattle.prelude.proofs.Ranges.{get_d-map-range, length-map-range, none_below}
use Rattle.prelude.proofs.Integers.{difference-size, sum-size}
use Rattle.rules.specs.declared.Sides.{Sides}
use Rattle.rules.specs.Grid.{size, range, voxel, voxels, on_border, neighbourhood, is_negative, distance_at}
use Rattle.rules.specs.declared.Carving.{Carving}
use Rattle.rules.specs.Answer.{Outcome, Buffers, untouched}
use Rattle.rules.specs.Begin.{exposed, is_in, inside, greatest_facing, worked_at, worked, waits_first, status_at, start_status, new_record}
use Rattle.rules.specs.Meaning.{found}
use Rattle.rules.specs.Status.{status_of, kept_byte, pending_byte, is_kept, is_pending, any_pending, test_at, removable, openable, carving}
use Rattle.rules.specs.Marks.{Marked, marked, stray_mark}
use Rattle.rules.specs.Machine.{State, after, lent_to, is_inside, outside, may_go, farther, sooner, marked_checks, take_checks, open_checks}
use Rattle.rules.specs.Machine.{finish_checks, carved, carve, taken, take, to_open, is_none, the_voxel, opened, open_next, closed, closed_at}
use Rattle.rules.specs.Machine.{finished_of, finish}
use Rattle.rules.specs.Fit.{Lent, Known, FitVoxels, FitState, Marking, Openable}
use Rattle.rules.specs.Demand.{Call, carve_up_to, take_at, open_one, finish_it, AllLend, call, run, FitAfter, NeverUnfit, CarveEndsAfter, CarveEnds}
use Rattle.rules.proofs.Checks.{by-checks, unless-held}
use Rattle.rules.proofs.Foremost.{farther-order, sooner-order, first-foremost}
use Rattle.rules.proofs.Fit as checked
use Rattle.rules.proofs.Fit.{state-fits, marking-holds}
use Rattle.rules.proofs.FitKept.{known_kept, known-settled, inside-below, inside-stays, fit-without, fit-carving}
use Rattle.rules.proofs.Topology.Count.{found_all, found-omit}
use Rattle.rules.proofs.Topology.Around.{Inner}
use Rattle.rules.proofs.Topology.Steps.{Tally, Sound}
use Rattle.rules.proofs.Topology.Calls.{tally_of, Good, Held, call-keeps, may-go-is, carving-ends}
use Rattle.rules.proofs.Demand.{all_held, held_all, Startable, start_state, FromStart, some-inside, good_start, keeps-after, from-begin}

-- what the calls keep besides: the bytes are fit, openings are allowed and removals too, and each opening moves the Euler number by 8 at most
record Fair (g : State) : Type 0 where
  voxels : FitVoxels g.rec.sides g.dist g.status
  openings : g.rec.openings ≤ g.rec.allowed
  removals : g.rec.openings ≤ g.rec.removals
  euler : nat_abs g.rec.euler ≤ 1 + 8 * g.rec.openings

-- ---- each call

module _ (g : State) (fair : Fair g) where
  abbrev s : Sides
  s = g.rec.sides

  same-euler : nat_abs (g.rec.euler +ℤ pos 0) ≤ 1 + 8 * (g.rec.openings + 0)
  same-euler = omega (arith, fair.euler, ap nat_abs (+ℤ_idr g.rec.euler))

  fair-carve : (marks : List ℕ) (limit : ℕ) → Fair (call (carve_up_to marks limit) g).end
  unfolding call carve carved
  fair-carve marks limit =
      let m = marked marks in
      let free = may_go m g.dist in
      let ahead = sooner m g.dist in
      by-checks (untouched (lent_to g)) (carved free ahead limit g) (λ o. Fair (after (λ r. r.next) g o)) (marked_checks marks g) (λ n. fair)
      (λ h. record {
        voxels = fit-carving s g.dist free (inside-stays m g.dist) ahead (sooner-order m g.dist) limit g.status fair.voxels;
        openings = omega (arith, fair.openings);
        removals = omega (arith, fair.removals);
        euler = same-euler;
      })

  outer-free : (m : Marked) (i : ℕ) → is_inside g.dist i ≡ false → m.pinned i ≡ false → may_go m g.dist i ≡ true
  unfolding may_go outside
  outer-free m i e f = ap₂ (λ (p q : Bool). not p && not q) e f

  fair-take : (marks : List ℕ) (i : ℕ) → Fair (call (take_at marks i) g).end
  unfolding call take taken
  fair-take marks i =
      let m = marked marks in
      let free = may_go m g.dist in
      by-checks (untouched (lent_to g)) (taken free i g) (λ o. Fair (after (λ r. r.next) g o)) (take_checks marks i g) (λ n. fair)
      (λ h. let t = checked.takeable g marks i h in record {
        voxels = fit-without s g.dist g.status fair.voxels free (inside-stays m g.dist) i (outer-free m i t.outer t.unpinned);
        openings = omega (arith, fair.openings);
        removals = omega (arith, fair.removals);
        euler = same-euler;
      })

  opened-euler : (i : ℕ) → nat_abs (g.rec.euler +ℤ (pos (test_at s g.status i).k -ℤ pos (test_at s g.status i).m)) ≤ 1 + 8 * (g.rec.openings + 1)
  unfolding test_at
  opened-euler i =
      let kept = neighbourhood s (is_kept g.status) i in
      let h = m-few kept in
      let d = difference-size (test kept).k (test kept).m 8 (k-few kept) (omega arith) in
      omega (arith, fair.euler, sum-size g.rec.euler (pos (test kept).k -ℤ pos (test kept).m))

  fair-open : (marks : List ℕ) → Fair (call (open_one marks) g).end
  unfolding call open_next
  fair-open marks =
      by-checks (untouched (lent_to g)) (opened free (the_voxel (to_open free g)) g) (λ o. Fair (after (λ r. r.next) g o)) (open_checks marks g) (λ n. fair)
      (λ h. through (checked.openable g marks h) (to_open free g) refl)
    where
      free : ℕ → Bool
      free = may_go (marked marks) g.dist

      through : Openable marks g → (o : Option ℕ) → to_open free g ≡ o → Fair (after (λ r. r.next) g (opened free (the_voxel o) g))
      through w None e = absurd (true≢false (ap is_none (sym e) ∙ w.found))
      through w (Some i) e =
          unfold opened in
          let first = first-foremost s (farther g.dist) (farther-order g.dist) (openable s free g.status) i (unfold to_open in e) in
          let o = and-true (removable free g.status i) (exposed s (is_kept g.status) i) (unfold openable in first.chosen) in
          let r = and-true (is_kept g.status i) (free i) (unfold removable in o.0) in
          let left = w.left in
          record {
            voxels = fit-without s g.dist g.status fair.voxels free (inside-stays (marked marks) g.dist) i r.1;
            openings = omega (arith, fair.openings);
            removals = omega (arith, fair.removals);
            euler = opened-euler i;
          }

  -- ---- finish: the kept voxels are just those of negative distance

  abbrev finished : List ℤ
  finished = map (closed_at g.dist g.status) (voxels s)

  length-finished : length finished ≡ size s
  unfolding voxels
  length-finished = length-map-range (closed_at g.dist g.status) (size s)

  not-waiting : any_pending s g.status ≡ false → (i : ℕ) → i < size s → pending_byte (status_of g.status i) ≡ false
  unfolding any_pending voxels is_pending
  not-waiting quiet i h = none_below (is_pending g.status) (size s) quiet i h

  finished-at : (i : ℕ) → i < size s → distance_at finished i ≡ closed_at g.dist g.status i
  unfolding voxels
  finished-at i h = get_d-map-range (closed_at g.dist g.status) (pos 0) (size s) i h

  finished-inner : any_pending s g.status ≡ false → (i : ℕ) → is_inside finished i ≡ true → status_of g.status i ≡ 1
  unfolding is_inside is_kept closed_at
  finished-inner quiet i e =
      let h : i < size s = omega (arith, inside-below finished i (unfold is_inside in e), length-finished) in
      go (kept_byte (status_of g.status i)) refl h (ap is_negative (sym (finished-at i h)) ∙ e)
    where
      go : (k : Bool) → kept_byte (status_of g.status i) ≡ k → i < size s → is_negative (closed_at g.dist g.status i) ≡ true → status_of g.status i ≡ 1
      go true q h n = known-settled (status_of g.status i) (fair.voxels.known i) q (not-waiting quiet i h)
      go false q h n = fair.voxels.inner i (subst (λ (k : Bool). is_negative (cond k (closed (distance_at g.dist i)) (distance_at g.dist i)) ≡ true) q n)

  fair-finish : Fair (call finish_it g).end
  unfolding call finish finished_of
  fair-finish =
      by-checks (untouched (lent_to g)) (finished_of g) (λ o. Fair (after (λ r. r) g o)) (finish_checks g) (λ n. fair)
      (λ h. let f = fair.voxels in record {
        voxels = record {
          lent = record { sides = f.lent.sides; distances = length-finished; statuses = f.lent.statuses };
          known = f.known;
          border = f.border;
          inner = finished-inner (checked.quiet g h).quiet;
        };
        openings = fair.openings;
        removals = fair.removals;
        euler = fair.euler;
      })

fair-call : (c : Call) (g : State) → Fair g → Fair (call c g).end
fair-call (carve_up_to marks limit) g fair = fair-carve g fair marks limit
fair-call (take_at marks i) g fair = fair-take g fair marks i
fair-call (open_one marks) g fair = fair-open g fair marks
fair-call finish_it g fair = fair-finish g fair

-- ---- any list of calls

module _ (S held : ℕ → Bool) (total : ℕ) where
  record Both (g : State) : Type 0 where
    good : Good S held total g
    fair : Fair g

  run-both : (cs : List Call) (g : State) → AllLend (Held S held total) g cs → Both g → Both (run cs g).end
  unfolding run
  run-both [] g within b = b
  run-both (c ∷ cs) g within b =
      run-both cs (call c g).end within.1
      (record { good = (call-keeps S held total c g within.0 b.good).good; fair = fair-call c g b.fair })

  -- S has a voxel, and the body at the start no more than the grid
  both-fit : (g : State) → Both g → total ≤ size g.rec.sides → (i : ℕ) → S i ≡ true → FitState g
  both-fit g b few i e =
      let inv = b.good.sound.inv in
      let k = inv.inside i e in
      let some-kept = found-omit g.rec.sides (is_kept g.status) i (inv.shape.inner i k).0 k in
      record {
        voxels = b.fair.voxels;
        openings = b.fair.openings;
        removals = omega (arith, inv.spent);
        examinations = omega (arith, inv.bounded, inv.spent);
        euler = omega (arith, b.fair.euler, b.fair.removals, inv.spent);
      }

-- ---- after a start

pub inner-border : (s : Sides) (i : ℕ) → Inner s (voxel s i) → on_border s i ≡ false
unfolding on_border
inner-border s i u = ap₂ ◌||◌ (off u.x-low u.x-high) (ap₂ ◌||◌ (off u.y-low u.y-high) (off u.z-low u.z-high))
  where
    off : {side x : ℕ} → 1 ≤ x → suc x < side → (eqb x 0 || eqb (suc x) side) ≡ false
    off {side} {x} l h = ap₂ ◌||◌ (ne_eqb x 0 (λ e. omega arith)) (ne_eqb (suc x) side (λ e. omega arith))

-- bytes that are known, and sound, are fit
module _ (s : Sides) (S held : ℕ → Bool) (total : ℕ) (dist : List ℤ) (status : List ℕ) (t : Tally) (sound : Sound s S held total status t)
    (lent : Lent s dist status) (known : (i : ℕ) → Known (status_of status i)) (signs : (i : ℕ) → is_inside dist i ≡ true → S i ≡ true) where
  gone-border : (i : ℕ) → on_border s i ≡ true → is_kept status i ≡ false
  gone-border i b =
      elim (two (is_kept status i)) [ inl e ↦ not-both (on_border s i) b (inner-border s i (sound.inv.shape.inner i e).1) | inr e ↦ e ]

  kept-inside : (i : ℕ) → is_inside dist i ≡ true → (is_kept status i ≡ true) × (is_pending status i ≡ false)
  kept-inside i e =
      let h = signs i e in
      (sound.inv.inside i h, elim (two (is_pending status i)) [ inl p ↦ not-both (S i) h (sound.inv.waiting i p).1 | inr p ↦ p ])

  pub fit-sound : FitVoxels s dist status
  unfolding is_kept is_pending
  fit-sound =
      record {
        lent = lent;
        known = known;
        border = λ i h b. known_kept (status_of status i) (known i) (gone-border i b);
        inner = λ i e. let k = kept-inside i e in known-settled (status_of status i) (known i) k.0 k.1;
      }

pub start-known : (s : Sides) (m : Marked) (S : List ℕ) (kept : ℕ → Bool) (i : ℕ) → Known (status_of (start_status s m S kept) i)
unfolding start_status voxels status_at
start-known s m S kept i =
    elim (dec_lt i (size s)) [
      | yes h ↦ subst Known (sym (get_d-map-range (status_at s m S kept) 0 (size s) i h)) (byte (kept i) (not (is_in S i) && waits_first s m kept i))
      | no n ↦ inl (get_or-eq_default (map (status_at s m S kept) (range 0 (size s))) 0 (omega (arith, length-map-range (status_at s m S kept) (size s))))
    ]
  where
    byte : (t u : Bool) → Known (cond t (cond u 3 1) 0)
    byte true true = inr (inr refl)
    byte true false = inr (inl refl)
    byte false u = inl refl

-- a carve whose checks hold
pub is-carved : (marks : List ℕ) (limit : ℕ) (g : State) → Marking marks g
    → let m = marked marks in carve marks limit g ≡ carved (may_go m g.dist) (sooner m g.dist) limit g
unfolding carve
is-carved marks limit g w =
    let m = marked marks in
    unless-held (untouched (lent_to g)) (carved (may_go m g.dist) (sooner m g.dist) limit g) (marked_checks marks g) (marking-holds marks g w)

length-worked : (s : Sides) (values : List ℤ) → length (worked s values (inside s values)) ≡ size s
unfolding worked voxels
length-worked s values = let S = inside s values in length-map-range (worked_at s values S (greatest_facing s values S)) (size s)

module _ (s : Sides) (values : List ℤ) (start : ℕ → Bool) (from : Startable s values start) (T : ℕ) (m : Marked) where
  abbrev S : ℕ → Bool
  S = is_in (inside s values)

  abbrev total : ℕ
  total = found s start

  abbrev started : State
  started = start_state s T values m start

  both-start : Both S all_held total started
  both-start =
      let good = good_start s values start from T m all_held (λ j e. refl) in
      let lent : Lent s started.dist started.status =
      record { sides = from.accepted.sides; distances = length-worked s values; statuses = good.sound.lent } in
      let voxels : FitVoxels s started.dist started.status =
      fit-sound s S all_held total started.dist started.status (tally_of (new_record s T)) good.sound lent (start-known s m (inside s values) start)
      (λ i e. sym (good.signs refl i (omega (arith, inside-below started.dist i e, length-worked s values))) ∙ e) in
      record { good = good; fair = record { voxels = voxels; openings = omega arith; removals = omega arith; euler = omega arith } }

  both-fits : (g : State) → Both S all_held total g → g.rec.sides ≡ s → FitState g
  both-fits g b e =
      let first = some-inside s values start from in
      both-fit S all_held total g b (subst (λ (t : Sides). total ≤ size t) (sym e) (found_all s start)) first.0 first.1

  pub start-fit : FitState started
  start-fit = both-fits started both-start refl

  module _ (calls : List Call) where
    abbrev reached : State
    reached = (run calls started).end

    both_end : Both S all_held total reached
    both_end = run-both S all_held total calls started (held_all S total calls started) both-start

    same-sides : reached.rec.sides ≡ s
    same-sides = (keeps-after s values start from T m calls).adds.sides

    pub end-fit : FitState reached
    end-fit = both-fits reached both_end same-sides

    -- a carve then, with marks that 2 and 29 let through
    module _ (lent : List ℕ) (limit : ℕ) (f : reached.rec.finished ≡ false) where
      abbrev free : ℕ → Bool
      free = may_go (marked lent) reached.dist

      abbrev ahead : ℕ → ℕ → Bool
      ahead = sooner (marked lent) reached.dist

      end_quiet : 27 * size s ≤ limit → any_pending s (carved free ahead limit reached).lent.status ≡ false
      unfolding carved
      end_quiet h =
          let g = reached in
          subst (λ (t : Sides). any_pending t (carving g.rec.sides free ahead limit g.status).status ≡ false) same-sides
          (carving-ends g.rec.sides S (marked lent).pinned all_held free ahead (sooner-order (marked lent) g.dist) total
          (λ j e. refl) (may-go-is S all_held total g both_end.good (marked lent) f) limit g.status (tally_of g.rec) both_end.good.sound
          (omega (arith, found_all s start)))

      end-carved : length lent ≡ size s → stray_mark lent ≡ false → carve lent limit reached ≡ carved free ahead limit reached
      end-carved n k =
          is-carved lent limit reached (record { working = record { fit = end-fit; unfinished = f }; lent = n ∙ ap size (sym same-sides); known = k })

pub fit-after : FromStart FitAfter
fit-after s T values marks start from calls =
    let m = marked marks in state-fits (run calls (start_state s T values m start)).end (end-fit s values start from T m calls)

pub never-unfit : NeverUnfit
never-unfit = from-begin FitAfter fit-after

pub carve-ends-after : FromStart CarveEndsAfter
carve-ends-after s T values marks start from calls lent n k limit h f =
    let c = end-carved s values start from T (marked marks) calls lent limit f n k in
    (c, ap (λ (o : Outcome Buffers Carving). any_pending s o.lent.status) c ∙ end_quiet s values start from T (marked marks) calls lent limit f h)

pub carve-ends : CarveEnds
carve-ends = from-begin CarveEndsAfter carve-ends-after
