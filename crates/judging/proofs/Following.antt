-- Our own calls, one after the other: the judge allows each entry of theirs, and its body matches our state.
use mathlib.Core.Path.{◌≡◌, refl, ap, ap₂, sym, ◌∙◌, subst}
use mathlib.Core.Bool.{Bool, true, false, not, cond, ◌&&◌, true≢false}
use mathlib.Core.List.{List, [], ◌∷◌, ◌++◌}
use Rattle.std.specs.Prelude.{Option, None, Some}
use Prim.Native.Nat.{ℕ, zero, suc, ◌+◌, ◌<◌}
use native.Mathlib.Omega.{arith}
use lib.IntN.{ℤ, pos, ◌+ℤ◌, ◌-ℤ◌, +ℤ_idr}
use Rattle.cells.specs.Cells.{test, passes}
use Rattle.prelude.proofs.Bools.{and-true, not-true}
use Rattle.rules.specs.declared.Sides.{Sides}
use Rattle.rules.specs.Grid.{size, neighbourhood}
use Rattle.rules.specs.Begin.{exposed}
use Rattle.rules.specs.Answer.{untouched}
use Rattle.rules.specs.Status.{Progress, progress, is_kept, is_pending, test_at, first_of, removable, examined_as, examine, carving, counted, examining, openable}
use Rattle.rules.specs.Status.{goes as goes_at, without as status_without}
use Rattle.rules.specs.Marks.{marked}
use Rattle.rules.specs.Machine.{State, after, lent_to, may_go, farther, sooner, marked_checks, take_checks, open_checks, finish_checks}
use Rattle.rules.specs.Machine.{carved, taken, to_open, is_none, the_voxel, opened, finished_of, carve, take, open_next, finish}
use Rattle.rules.specs.Choice.{Order}
use Rattle.rules.specs.Fit.{Working, Takeable, Openable}
use Rattle.rules.specs.Demand.{Call, carve_up_to, take_at, open_one, finish_it, is_refused, refuses, Lends, AllLend, call, run}
use Rattle.rules.proofs.Checks.{by-checks}
use Rattle.rules.proofs.Foremost.{farther-order, sooner-order, first-foremost}
use Rattle.rules.proofs.Fit as fit
use Rattle.rules.proofs.Topology.Steps.{Tally, Sound, kept-stayed, sound-examined}
use Rattle.rules.proofs.Topology.Calls.{tally_of, Good, Held, may-go-is, call-keeps}
use Rattle.judging.specs.Judge.{Entry, Body, less_one, allows, goes, leaves}
use Rattle.judging.specs.Accepted.{NonePasses}
use Rattle.judging.specs.Own.{ordinary, opening, AllBelow, removed_by, if_done, entries_of, own_list, opens_at, OpenLast}
use Rattle.judging.proofs.Starts.{less-without}
use Rattle.judging.proofs.Accepted.{none_passes, passes_none, allowed-turn, turn-allowed, Follows}

-- the body of the judge, and a state of ours
pub record Matches (b : Body) (g : State) : Type 0 where
  pub kept : b.kept ≡ is_kept g.status
  pub removed : b.removed ≡ g.rec.removals
  pub opened : b.opened ≡ g.rec.openings
  pub euler : b.euler ≡ g.rec.euler

-- ---- entries after others

below-append : (n : ℕ) (es fs : List Entry) → AllBelow n es → AllBelow n fs → AllBelow n (es ++ fs)
below-append n [] fs h k = k
below-append n (e ∷ es) fs h k = (h.0, below-append n es fs h.1 k)

leaves-append : (s : Sides) (es fs : List Entry) (b : Body) → leaves s b (es ++ fs) ≡ leaves s (leaves s b es) fs
unfolding leaves
leaves-append s [] fs b = refl
leaves-append s (e ∷ es) fs b = leaves-append s es fs (goes s b e)

module _ (s : Sides) (S : ℕ → Bool) (T : ℕ) where
  -- each is allowed, whatever passes at the end
  unfoldable Allowed : Body → List Entry → Type 0
  Allowed b [] = Unit {0}
  Allowed b (e ∷ es) = (allows s S T b e ≡ true) × (Allowed (goes s b e) es)

  append-follows : (es fs : List Entry) (b : Body) → Allowed b es → Follows s S T (leaves s b es) fs → Follows s S T b (es ++ fs)
  unfolding Allowed Follows leaves
  append-follows [] fs b h k = k
  append-follows (e ∷ es) fs b h k = (h.0, append-follows es fs (goes s b e) h.1 k)

  follows-append : (es fs : List Entry) (b : Body) → Follows s S T b (es ++ fs) → (Allowed b es) × (Follows s S T (leaves s b es) fs)
  unfolding Allowed Follows leaves
  follows-append [] fs b f = (tt, f)
  follows-append (e ∷ es) fs b f = let r = follows-append es fs (goes s b e) f.1 in ((f.0, r.0), r.1)

  -- ---- a run of examinations

  -- an ordinary voxel, by what our status bytes say of it
  passing : (b : Body) (status : List ℕ) (i : ℕ) → b.kept ≡ is_kept status → is_kept status i ≡ true → S i ≡ false → passes (test_at s status i) ≡ true
      → allows s S T b (ordinary i) ≡ true
  unfolding test_at
  passing b status i same k o p =
      turn-allowed s S T b (ordinary i) (record {
        is-kept = ap (λ (k : ℕ → Bool). k i) same ∙ k;
        is-outside = o;
        ordinary-passes = λ _. ap (λ (k : ℕ → Bool). passes (test (neighbourhood s k i))) same ∙ p;
        opening-exposed = λ f. absurd (true≢false (sym f));
        opening-last = λ f. absurd (true≢false (sym f));
      }) (λ f. absurd (true≢false (sym f)))

  -- the judge allows its entries, and the counts of its body grow as those of the run
  record Runs (b : Body) (p : Progress) (es : List Entry) : Type 0 where
    allowed : Allowed b es
    below : AllBelow (size s) es
    kept : (leaves s b es).kept ≡ is_kept p.status
    removed : (leaves s b es).removed ≡ b.removed + p.removed
    opened : (leaves s b es).opened ≡ b.opened
    euler : (leaves s b es).euler ≡ b.euler

  nothing_run : (b : Body) (status : List ℕ) → b.kept ≡ is_kept status → Runs b (progress 0 0 6 status) []
  unfolding Allowed leaves
  nothing_run b status same = record { allowed = tt; below = tt; kept = same; removed = omega arith; opened = refl; euler = refl }

  module _ (pins held free : ℕ → Bool) (ahead : ℕ → ℕ → Bool) (order : Order ahead) (total : ℕ)
      (within : (j : ℕ) → pins j ≡ true → held j ≡ true) (free-is : (j : ℕ) → j < size s → free j ≡ (not (S j) && not (pins j))) where
    abbrev FromHere : ℕ → List ℕ → Type 0
    FromHere limit status =
        (t : Tally) → Sound s S held total status t → (b : Body) → b.kept ≡ is_kept status
        → Runs b (carving s free ahead limit status) (removed_by s free ahead limit status)

    module _ (limit : ℕ) (status : List ℕ) (t : Tally) (sound : Sound s S held total status t) (b : Body) (same : b.kept ≡ is_kept status)
        (later : (i : ℕ) → FromHere limit (examine s free status i)) where
      -- the voxel that comes first goes, or stays
      examined : (i : ℕ) → i < size s → is_pending status i ≡ true → (u : Bool) → goes_at s free status i ≡ u
          → let more = removed_by s free ahead limit (examine s free status i) in
          Runs b (counted u (test_at s status i).face (carving s free ahead limit (examine s free status i))) (cond u (ordinary i ∷ more) more)
      unfolding Allowed leaves goes
      examined i h p true e =
          let w = sound.inv.waiting i p in
          let r = later i _ (sound-examined s S pins held free total within free-is status t sound i h p) (goes s b (ordinary i)) gone in
          record {
            allowed = (passing b status i same w.0 w.1 (and-true (passes (test_at s status i)) (free i) (unfold goes_at in e)).0, r.allowed);
            below = (h, r.below);
            kept = r.kept;
            removed = omega (arith, r.removed);
            opened = r.opened;
            euler = r.euler;
          }
        where
          gone : less_one b.kept i ≡ is_kept (examine s free status i)
          gone =
              unfold examine in
              less-without s free status sound.lent b.kept same i ∙ ap (λ (u : Bool). is_kept (examined_as u s free status i)) (sym e)
      examined i h p false e =
          let r = later i _ (sound-examined s S pins held free total within free-is status t sound i h p) b stays in
          record { allowed = r.allowed; below = r.below; kept = r.kept; removed = r.removed; opened = r.opened; euler = r.euler }
        where
          stays : b.kept ≡ is_kept (examine s free status i)
          stays =
              unfold examine in
              same ∙ sym (ap (λ (u : Bool). is_kept (examined_as u s free status i)) e ∙ kept-stayed s status sound.lent i h p)

      first : (o : Option ℕ) → first_of s ahead (is_pending status) ≡ o
          → Runs b (examining s free status (λ i. carving s free ahead limit (examine s free status i)) o)
          (elim o [
            | None ↦ []
            | Some i ↦ let more = removed_by s free ahead limit (examine s free status i) in cond (goes_at s free status i) (ordinary i ∷ more) more
          ])
      first None e = nothing_run b status same
      first (Some i) e =
          let f = first-foremost s ahead order (is_pending status) i e in examined i f.below f.chosen (goes_at s free status i) refl

    carving-runs : (limit : ℕ) (status : List ℕ) → FromHere limit status
    unfolding carving removed_by
    carving-runs zero status t sound b same = nothing_run b status same
    carving-runs (suc limit) status t sound b same =
        first limit status t sound b same (λ i. carving-runs limit (examine s free status i)) (first_of s ahead (is_pending status)) refl

-- ---- each call

module _ (S held : ℕ → Bool) (total : ℕ) (g : State) (good : Good S held total g) (b : Body) (m : Matches b g) where
  abbrev s : Sides
  s = g.rec.sides

  abbrev T : ℕ
  T = g.rec.allowed

  -- no kept outside voxel passes in our state
  abbrev Quiet : Type 0
  Quiet = NonePasses s S (is_kept g.status)

  -- a call that leaves such a state: where it opens and is allowed none passes, and where none passes it is allowed
  record InStep (opens : Bool) (es : List Entry) (h : State) : Type 0 where
    below : AllBelow (size s) es
    matches : Matches (leaves s b es) h
    allowed : (opens ≡ true → Quiet) → Allowed s S T b es
    last : Allowed s S T b es → opens ≡ true → Quiet

  nothing-gone : InStep false [] g
  unfolding Allowed leaves
  nothing-gone = record { below = tt; matches = m; allowed = λ q. tt; last = λ a e. absurd (true≢false (sym e)) }

  carve-in-step : (marks : List ℕ) (limit : ℕ) → let c = carve_up_to marks limit in
      (refuses g c ≡ false → Held S held total marks) → InStep false (entries_of c g) (call c g).end
  unfolding call refuses carve carved entries_of
  carve-in-step marks limit =
      by-checks (untouched (lent_to g)) (carved free ahead limit g)
      (λ o. (is_refused o.answer ≡ false → Held S held total marks)
      → InStep false (if_done o.answer (λ r. removed_by s free ahead limit g.status)) (after (λ r. r.next) g o))
      (marked_checks marks g) (λ n within. nothing-gone) (λ h within. ran (within refl) (fit.marking g marks h).working)
    where
      free : ℕ → Bool
      free = may_go (marked marks) g.dist

      ahead : ℕ → ℕ → Bool
      ahead = sooner (marked marks) g.dist

      ran : Held S held total marks → Working g → InStep false (removed_by s free ahead limit g.status) (after (λ r. r.next) g (carved free ahead limit g))
      ran within w =
          let r = carving-runs s S T (marked marks).pinned held free ahead (sooner-order (marked marks) g.dist) total within
          (may-go-is S held total g good (marked marks) w.unfinished) limit g.status (tally_of g.rec) good.sound b m.kept in
          record {
            below = r.below;
            matches = record {
              kept = r.kept;
              removed = omega (arith, r.removed, m.removed);
              opened = omega (arith, r.opened, m.opened);
              euler = r.euler ∙ m.euler ∙ sym (+ℤ_idr g.rec.euler);
            };
            allowed = λ q. r.allowed;
            last = λ a e. absurd (true≢false (sym e));
          }

  -- the voxels kept after one is gone
  gone-kept : (free : ℕ → Bool) (i : ℕ) → less_one b.kept i ≡ is_kept (status_without s free g.status i)
  gone-kept free = less-without s free g.status good.sound.lent b.kept m.kept

  take-in-step : (marks : List ℕ) (i : ℕ) → let c = take_at marks i in InStep false (entries_of c g) (call c g).end
  unfolding call take taken entries_of
  take-in-step marks i =
      by-checks (untouched (lent_to g)) (taken free i g)
      (λ o. InStep false (if_done o.answer (λ r. ordinary i ∷ [])) (after (λ r. r.next) g o))
      (take_checks marks i g) (λ n. nothing-gone) (λ h. went (fit.takeable g marks i h))
    where
      free : ℕ → Bool
      free = may_go (marked marks) g.dist

      went : Takeable marks i g → InStep false (ordinary i ∷ []) (after (λ r. r.next) g (taken free i g))
      went t =
          unfold Allowed leaves goes in
          let outer = sym (good.signs t.marking.working.unfinished i t.below) ∙ t.outer in
          record {
            below = (t.below, tt);
            matches = record {
              kept = gone-kept free i;
              removed = omega (arith, m.removed);
              opened = omega (arith, m.opened);
              euler = m.euler ∙ sym (+ℤ_idr g.rec.euler);
            };
            allowed = λ q. (passing s S T b g.status i m.kept t.kept outer t.passing, tt);
            last = λ a e. absurd (true≢false (sym e));
          }

  open-in-step : (marks : List ℕ) → let c = open_one marks in InStep (opens_at g c) (entries_of c g) (call c g).end
  unfolding call refuses open_next entries_of
  open-in-step marks =
      by-checks (untouched (lent_to g)) (opened free (the_voxel (to_open free g)) g)
      (λ o. InStep (not (is_refused o.answer)) (if_done o.answer (λ r. opening r.index ∷ [])) (after (λ r. r.next) g o))
      (open_checks marks g) (λ n. nothing-gone) (λ h. through (fit.openable g marks h) (to_open free g) refl)
    where
      free : ℕ → Bool
      free = may_go (marked marks) g.dist

      through : Openable marks g → (o : Option ℕ) → to_open free g ≡ o → let p = opened free (the_voxel o) g in
          InStep (not (is_refused p.answer)) (if_done p.answer (λ r. opening r.index ∷ [])) (after (λ r. r.next) g p)
      through w None e = absurd (true≢false (ap is_none (sym e) ∙ w.found))
      through w (Some i) e =
          unfold opened Allowed leaves goes test_at in
          let first = first-foremost s (farther g.dist) (farther-order g.dist) (openable s free g.status) i (unfold to_open in e) in
          let o = and-true (removable free g.status i) (exposed s (is_kept g.status) i) (unfold openable in first.chosen) in
          let r = and-true (is_kept g.status i) (free i) (unfold removable in o.0) in
          let may = may-go-is S held total g good (marked marks) w.quiet.working.unfinished i first.below in
          let u = and-true (not (S i)) (not ((marked marks).pinned i)) (sym may ∙ r.1) in
          let left = w.left in
          let few = w.quiet.working.fit.openings in
          record {
            below = (first.below, tt);
            matches = record {
              kept = gone-kept free i;
              removed = omega (arith, m.removed);
              opened = omega (arith, m.opened);
              euler = ap₂ (λ (n : ℤ) (k : ℕ → Bool). n +ℤ (pos (test (neighbourhood s k i)).k -ℤ pos (test (neighbourhood s k i)).m)) m.euler m.kept;
            };
            allowed = λ q. (
              turn-allowed s S T b (opening i) (record {
                is-kept = ap (λ (k : ℕ → Bool). k i) m.kept ∙ r.0;
                is-outside = not-true (S i) u.0;
                ordinary-passes = λ f. absurd (true≢false f);
                opening-exposed = λ _. ap (λ (k : ℕ → Bool). exposed s k i) m.kept ∙ o.1;
                opening-last = λ _. subst (NonePasses s S) (sym m.kept) (q refl);
              }) (λ _. omega (arith, m.opened)),
              tt,
            );
            last = λ a e. subst (NonePasses s S) m.kept ((allowed-turn s S T b (opening i) a.0).0.opening-last refl);
          }

  finish-in-step : InStep false (entries_of finish_it g) (call finish_it g).end
  unfolding call finish finished_of entries_of leaves Allowed
  finish-in-step =
      by-checks (untouched (lent_to g)) (finished_of g) (λ o. InStep false [] (after (λ r. r) g o)) (finish_checks g) (λ n. nothing-gone)
      (λ h. record {
        below = tt;
        matches = record { kept = m.kept; removed = m.removed; opened = m.opened; euler = m.euler };
        allowed = λ q. tt;
        last = λ a e. absurd (true≢false (sym e));
      })

  call-in-step : (c : Call) → (refuses g c ≡ false → Lends (Held S held total) c) → InStep (opens_at g c) (entries_of c g) (call c g).end
  call-in-step (carve_up_to marks limit) within = carve-in-step marks limit within
  call-in-step (take_at marks i) within = take-in-step marks i
  call-in-step (open_one marks) within = open-in-step marks
  call-in-step finish_it within = finish-in-step

-- ---- any list of calls

-- the judge accepts its entries exactly where it opens last
pub record Follow (s : Sides) (S : ℕ → Bool) (T : ℕ) (b : Body) (g : State) (cs : List Call) : Type 0 where
  pub below : AllBelow (size s) (own_list cs g)
  pub matches : Matches (leaves s b (own_list cs g)) (run cs g).end
  pub follows : OpenLast s S g cs → Follows s S T b (own_list cs g)
  pub last : Follows s S T b (own_list cs g) → OpenLast s S g cs

pub run-follows : (S held : ℕ → Bool) (total : ℕ) (cs : List Call) (g : State) → AllLend (Held S held total) g cs → Good S held total g
    → (b : Body) → Matches b g → Follow g.rec.sides S g.rec.allowed b g cs
unfolding run own_list Follows leaves
run-follows S held total [] g within good b m =
    let s = g.rec.sides in
    record {
      below = tt;
      matches = m;
      follows = λ last. passes_none s S b.kept (subst (NonePasses s S) (sym m.kept) last);
      last = λ f. subst (NonePasses s S) m.kept (none_passes s S b.kept f);
    }
run-follows S held total (c ∷ cs) g within good b m =
    let s = g.rec.sides in
    let T = g.rec.allowed in
    let own = entries_of c g in
    let h = (call c g).end in
    let more = own_list cs h in
    let here = call-in-step S held total g good b m c within.0 in
    let left = leaves s b own in
    let keeps = call-keeps S held total c g within.0 good in
    let adds = keeps.adds in
    let rest : Follow s S T left h cs =
    subst (λ (T : ℕ). Follow s S T left h cs) adds.allowed (subst (λ (t : Sides). Follow t S h.rec.allowed left h cs) adds.sides
    (run-follows S held total cs h within.1 keeps.good left here.matches)) in
    record {
      below = below-append (size s) own more here.below rest.below;
      matches = subst (λ (c : Body). Matches c (run cs h).end) (sym (leaves-append s own more b)) rest.matches;
      follows = λ last. append-follows s S T own more b (here.allowed last.0) (rest.follows last.1);
      last = λ f. let r = follows-append s S T own more b f in (here.last r.0, rest.last r.1);
    }
