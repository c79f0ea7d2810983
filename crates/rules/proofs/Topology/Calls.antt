-- Every call keeps what holds of a state, and the record's counts grow by what the call answered.
use mathlib.Core.Path.{◌≡◌, refl, ap, sym, ◌∙◌, subst}
use mathlib.Core.Logic.{◌⊎◌, inl, inr}
use mathlib.Core.Bool.{Bool, true, false, not, cond, ◌&&◌, true≢false}
use mathlib.Core.List.{List, [], ◌∷◌}
use Rattle.std.specs.Prelude.{Option, None, Some}
use Prim.Native.Nat.{ℕ, zero, suc, ◌+◌, ◌*◌, ◌≤◌, ◌<◌}
use native.Mathlib.Omega.{arith}
use lib.IntN.{ℤ, pos, ◌+ℤ◌, +ℤ_assoc, +ℤ_idr}
use lib.ListN.{length}
use Rattle.cells.specs.Groups.{any, filter}
use Rattle.prelude.proofs.Bools.{and-true, not-true, not-both, two}
use Rattle.prelude.proofs.Lists.{Mem, any-true, mem-filter}
use Rattle.rules.specs.declared.Sides.{Sides}
use Rattle.rules.specs.declared.Record.{Record}
use Rattle.rules.specs.Grid.{size, range, voxels}
use Rattle.rules.specs.Begin.{exposed}
use Rattle.rules.specs.Meaning.{found}
use Rattle.rules.specs.Status.{openable, Progress, is_kept, is_pending, any_pending, removable, test_at, first_of, goes, examine, counted, examining, carving}
use Rattle.rules.specs.Marks.{Marked, marked}
use Rattle.rules.specs.Machine.{State, after, lent_to, is_inside, outside, may_go, farther, sooner, count, marked_checks, take_checks, open_checks}
use Rattle.rules.specs.Machine.{finish_checks, carved, taken, to_open, is_none, opened, the_voxel, finished_of, carve, take, open_next, finish}
use Rattle.rules.specs.Answer.{untouched}
use Rattle.rules.specs.Choice.{Order}
use Rattle.rules.specs.Fit.{Working, Takeable, Openable}
use Rattle.rules.specs.Demand.{Call, carve_up_to, take_at, open_one, finish_it, is_refused, refuses, Lends, AllLend, Sums, nothing}
use Rattle.rules.specs.Demand.{of_carve, of_take, of_open, call, run}
use Rattle.rules.proofs.Checks.{by-checks}
use Rattle.prelude.proofs.Ranges.{any_below}
use Rattle.rules.proofs.Foremost.{farther-order, sooner-order, first-foremost, first-none}
use Rattle.rules.proofs.Fit as fit
use Rattle.rules.proofs.Topology.Steps.{Tally, tally, examined_once, Sound, sound-taken, sound-opened, sound-examined}

-- ---- a run of examinations, by any order, that pins no voxel but those that are held

none-filter : (p : ℕ → Bool) (l : List ℕ) → length (filter p l) ≡ 0 → any p l ≡ false
none-filter p l z =
    elim (two (any p l)) [
      | inl t ↦ let r = any-true p l t in not-both false (filled (filter p l) r.0 (mem-filter p l r.0 r.1 r.2) z) refl
      | inr f ↦ f
    ]
  where
    filled : (l : List ℕ) (x : ℕ) → Mem x l → length l ≡ 0 → false ≡ true
    filled [] x m z = elim m [ ]
    filled (y ∷ l) x m z = let w : ⊥ = omega arith in absurd w

none-pending : (s : Sides) (status : List ℕ) → found s (is_pending status) ≡ 0 → any_pending s status ≡ false
unfolding any_pending
none-pending s status z = none-filter (is_pending status) (voxels s) z

module _ (s : Sides) (S pins held free : ℕ → Bool) (ahead : ℕ → ℕ → Bool) (order : Order ahead) (total : ℕ)
    (within : (j : ℕ) → pins j ≡ true → held j ≡ true) (free-is : (j : ℕ) → j < size s → free j ≡ (not (S j) && not (pins j))) where
  -- the counts before a run, and what it did
  abbrev grown : Tally → Progress → Tally
  grown t p = tally (p.examined + t.examined) (p.removed + t.removed) t.opened t.number

  nothing-done : (status : List ℕ) (t : Tally) → Sound s S held total status t
      → Sound s S held total status (tally (0 + t.examined) (0 + t.removed) t.opened t.number)
  nothing-done status t h =
      subst (Sound s S held total status) (λ n. tally (same t.examined n) (same t.removed n) t.opened t.number) h
    where
      same : (n : ℕ) → n ≡ 0 + n
      same n = omega arith

  pub carving-sound : (limit : ℕ) (status : List ℕ) (t : Tally) → Sound s S held total status t
      → let p = carving s free ahead limit status in Sound s S held total p.status (grown t p)
  unfolding carving
  carving-sound zero status t sound = nothing-done status t sound
  carving-sound (suc limit) status t sound = go (first_of s ahead (is_pending status)) refl (λ i t sound. carving-sound limit (examine s free status i) t sound)
    where
      next : Option ℕ → Progress
      next o = examining s free status (λ i. carving s free ahead limit (examine s free status i)) o

      more : (u : Bool) (face : ℕ) (p : Progress) → Sound s S held total p.status (grown (examined_once u t) p)
          → Sound s S held total (counted u face p).status (grown t (counted u face p))
      more u face p h = subst (λ (t : Tally). Sound s S held total p.status t) (λ n. tally (examinations n) (removals u n) t.opened t.number) h
        where
          examinations : p.examined + suc t.examined ≡ suc p.examined + t.examined
          examinations = omega arith

          removals : (u : Bool) → p.removed + cond u (suc t.removed) t.removed ≡ cond u (suc p.removed) p.removed + t.removed
          removals true = omega arith
          removals false = refl

      go : (o : Option ℕ) → first_of s ahead (is_pending status) ≡ o
          → ((i : ℕ) (t : Tally) → Sound s S held total (examine s free status i) t
          → let p = carving s free ahead limit (examine s free status i) in Sound s S held total p.status (grown t p))
          → Sound s S held total (next o).status (grown t (next o))
      go None e rest = nothing-done status t sound
      go (Some i) e rest =
          let first = first-foremost s ahead order (is_pending status) i e in
          more (goes s free status i) (test_at s status i).face (carving s free ahead limit (examine s free status i))
          (rest i (examined_once (goes s free status i) t)
          (sound-examined s S pins held free total within free-is status t sound i first.below first.chosen))

  -- so many examinations, unless nothing is pending any more
  carving-examines : (limit : ℕ) (status : List ℕ)
      → (any_pending s (carving s free ahead limit status).status ≡ false) ⊎ ((carving s free ahead limit status).examined ≡ limit)
  unfolding carving
  carving-examines zero status = inr refl
  carving-examines (suc limit) status = go (first_of s ahead (is_pending status)) refl (λ i. carving-examines limit (examine s free status i))
    where
      next : Option ℕ → Progress
      next o = examining s free status (λ i. carving s free ahead limit (examine s free status i)) o

      quiet : first_of s ahead (is_pending status) ≡ None → any_pending s status ≡ false
      quiet e =
          unfold any_pending voxels in
          elim (two (any (is_pending status) (range 0 (size s)))) [
            | inl t ↦
                let r = any_below (is_pending status) (size s) t in
                not-both (is_pending status r.0) r.2 (first-none s ahead (is_pending status) e r.0 r.1)
            | inr f ↦ f
          ]

      go : (o : Option ℕ) → first_of s ahead (is_pending status) ≡ o
          → ((i : ℕ) → let p = carving s free ahead limit (examine s free status i) in (any_pending s p.status ≡ false) ⊎ (p.examined ≡ limit))
          → (any_pending s (next o).status ≡ false) ⊎ ((next o).examined ≡ suc limit)
      go None e rest = inl (quiet e)
      go (Some i) e rest = elim (rest i) [ inl f ↦ inl f | inr f ↦ inr (ap suc f) ]

  -- a run of as many examinations as 27 for each voxel of the body at the start leaves nothing pending
  pub carving-ends : (limit : ℕ) (status : List ℕ) (t : Tally) → Sound s S held total status t → 27 * total ≤ limit
      → any_pending s (carving s free ahead limit status).status ≡ false
  carving-ends limit status t sound h = go (carving-examines limit status)
    where
      go : (any_pending s (carving s free ahead limit status).status ≡ false) ⊎ ((carving s free ahead limit status).examined ≡ limit)
          → any_pending s (carving s free ahead limit status).status ≡ false
      go (inl e) = e
      go (inr e) =
          let inv = (carving-sound limit status t sound).inv in
          none-pending s (carving s free ahead limit status).status (omega (arith, inv.bounded, inv.spent))

-- ---- states

abbrev pub tally_of : Record → Tally
tally_of r = tally r.examinations r.removals r.openings r.euler

-- what holds of a state between calls: to an unfinished grid S is the voxels of negative worked distance
pub record Good (S held : ℕ → Bool) (total : ℕ) (g : State) : Type 0 where
  pub sound : Sound g.rec.sides S held total g.status (tally_of g.rec)
  pub signs : g.rec.finished ≡ false → (i : ℕ) → i < size g.rec.sides → is_inside g.dist i ≡ S i

-- what one call does to the record
pub record Adds (g h : State) (a : Sums) : Type 0 where
  pub sides : h.rec.sides ≡ g.rec.sides
  pub allowed : h.rec.allowed ≡ g.rec.allowed
  pub openings : h.rec.openings ≡ g.rec.openings + a.opened
  pub removals : h.rec.removals ≡ g.rec.removals + a.removed
  pub examinations : h.rec.examinations ≡ g.rec.examinations + a.examined
  pub euler : h.rec.euler ≡ g.rec.euler +ℤ a.change

adds-nothing : (g : State) → Adds g g nothing
adds-nothing g =
    record {
      sides = refl;
      allowed = refl;
      openings = omega arith;
      removals = omega arith;
      examinations = omega arith;
      euler = sym (+ℤ_idr g.rec.euler);
    }

module _ (S held : ℕ → Bool) (total : ℕ) where
  -- marks that pin no voxel but those that are held
  abbrev pub Held : List ℕ → Type 0
  Held marks = (j : ℕ) → (marked marks).pinned j ≡ true → held j ≡ true

  -- what holds after a call
  pub record Keeps (g h : State) (a : Sums) : Type 0 where
    pub good : Good S held total h
    pub adds : Adds g h a

  kept-as-is : (g : State) → Good S held total g → Keeps g g nothing
  kept-as-is g good = record { good = good; adds = adds-nothing g }

  module _ (g : State) (good : Good S held total g) where
    abbrev s : Sides
    s = g.rec.sides

    pub may-go-is : (m : Marked) → g.rec.finished ≡ false → (j : ℕ) → j < size s → may_go m g.dist j ≡ (not (S j) && not (m.pinned j))
    unfolding may_go outside
    may-go-is m f j h = ap (λ (t : Bool). not t && not (m.pinned j)) (good.signs f j h)

    -- the counts as the record has them after a call
    recounted : {status : List ℕ} {t : Tally} (examined removed opened : ℕ) (change : ℤ)
        → t.examined ≡ g.rec.examinations + examined → t.removed ≡ g.rec.removals + removed
        → t.opened ≡ g.rec.openings + opened → t.number ≡ g.rec.euler +ℤ change
        → Sound s S held total status t → Sound s S held total status (tally_of (count g.rec examined removed opened change))
    recounted {status} {t} examined removed opened change e r o c h =
        subst (λ (t : Tally). Sound s S held total status t) (λ n. tally (e n) (r n) (o n) (c n)) h

    -- ---- carve

    carve-keeps : (marks : List ℕ) (limit : ℕ) → let c = carve_up_to marks limit in
        (refuses g c ≡ false → Held marks) → Keeps g (call c g).end (call c g).answers
    unfolding call refuses carve carved
    carve-keeps marks limit =
        by-checks (untouched (lent_to g)) (carved free ahead limit g)
        (λ o. (is_refused o.answer ≡ false → Held marks) → Keeps g (after (λ r. r.next) g o) (of_carve o.answer))
        (marked_checks marks g) (λ n within. kept-as-is g good) (λ h within. ran (within refl) (fit.marking g marks h).working)
      where
        free : ℕ → Bool
        free = may_go (marked marks) g.dist

        ahead : ℕ → ℕ → Bool
        ahead = sooner (marked marks) g.dist

        p : Progress
        p = carving s free ahead limit g.status

        ran : Held marks → Working g → Keeps g (after (λ r. r.next) g (carved free ahead limit g)) (of_carve (carved free ahead limit g).answer)
        ran within w =
            let sound = carving-sound s S (marked marks).pinned held free ahead (sooner-order (marked marks) g.dist) total within
            (may-go-is (marked marks) w.unfinished) limit g.status (tally_of g.rec) good.sound in
            record {
              good = record {
                sound = recounted p.examined p.removed 0 (pos 0) (omega arith) (omega arith) (omega arith) (sym (+ℤ_idr g.rec.euler)) sound;
                signs = good.signs;
              };
              adds = record { sides = refl; allowed = refl; openings = refl; removals = refl; examinations = refl; euler = refl };
            }

    -- ---- take

    take-keeps : (marks : List ℕ) (i : ℕ) → let c = take_at marks i in
        (refuses g c ≡ false → Held marks) → Keeps g (call c g).end (call c g).answers
    unfolding call refuses take taken
    take-keeps marks i =
        by-checks (untouched (lent_to g)) (taken free i g)
        (λ o. (is_refused o.answer ≡ false → Held marks) → Keeps g (after (λ r. r.next) g o) (of_take o.answer))
        (take_checks marks i g) (λ n within. kept-as-is g good) (λ h within. went (within refl) (fit.takeable g marks i h))
      where
        free : ℕ → Bool
        free = may_go (marked marks) g.dist

        went : Held marks → Takeable marks i g → Keeps g (after (λ r. r.next) g (taken free i g)) (of_take (taken free i g).answer)
        went within t =
            let f = t.marking.working.unfinished in
            let sound = sound-taken s S (marked marks).pinned held free total within (may-go-is (marked marks) f)
            g.status (tally_of g.rec) good.sound i t.kept (sym (good.signs f i t.below) ∙ t.outer) t.unpinned t.passing in
            record {
              good = record {
                sound = recounted 0 1 0 (pos 0) (omega arith) (omega arith) (omega arith) (sym (+ℤ_idr g.rec.euler)) sound;
                signs = good.signs;
              };
              adds = record { sides = refl; allowed = refl; openings = refl; removals = refl; examinations = refl; euler = refl };
            }

    -- ---- open

    open-keeps : (marks : List ℕ) → let c = open_one marks in
        (refuses g c ≡ false → Held marks) → Keeps g (call c g).end (call c g).answers
    unfolding call refuses open_next
    open-keeps marks =
        by-checks (untouched (lent_to g)) (opened free (the_voxel (to_open free g)) g)
        (λ o. (is_refused o.answer ≡ false → Held marks) → Keeps g (after (λ r. r.next) g o) (of_open o.answer))
        (open_checks marks g) (λ n within. kept-as-is g good)
        (λ h within. through (within (unfold opened in refl)) (fit.openable g marks h) (to_open free g) refl)
      where
        free : ℕ → Bool
        free = may_go (marked marks) g.dist

        through : Held marks → Openable marks g → (o : Option ℕ) → to_open free g ≡ o
            → Keeps g (after (λ r. r.next) g (opened free (the_voxel o) g)) (of_open (opened free (the_voxel o) g).answer)
        through within w None e = absurd (true≢false (ap is_none (sym e) ∙ w.found))
        through within w (Some i) e =
            unfold opened in
            let f = w.quiet.working.unfinished in
            let first = first-foremost s (farther g.dist) (farther-order g.dist) (openable s free g.status) i (unfold to_open in e) in
            let o = and-true (removable free g.status i) (exposed s (is_kept g.status) i) (unfold openable in first.chosen) in
            let r = and-true (is_kept g.status i) (free i) (unfold removable in o.0) in
            let u = and-true (not (S i)) (not ((marked marks).pinned i)) (sym (may-go-is (marked marks) f i first.below) ∙ r.1) in
            let sound = sound-opened s S (marked marks).pinned held free total within (may-go-is (marked marks) f)
            g.status (tally_of g.rec) good.sound i r.0 (not-true (S i) u.0) (not-true ((marked marks).pinned i) u.1) o.1 in
            record {
              good = record {
                sound = recounted 0 1 1 _ (omega arith) (omega arith) (omega arith) refl sound;
                signs = good.signs;
              };
              adds = record { sides = refl; allowed = refl; openings = refl; removals = refl; examinations = refl; euler = refl };
            }

    -- ---- finish

    finish-keeps : Keeps g (call finish_it g).end (call finish_it g).answers
    unfolding call finish finished_of
    finish-keeps =
        by-checks (untouched (lent_to g)) (finished_of g) (λ o. Keeps g (after (λ r. r) g o) nothing)
        (finish_checks g) (λ n. kept-as-is g good)
        (λ h. record { good = record { sound = good.sound; signs = λ f. absurd (true≢false f) }; adds = adds-finished })
      where
        adds-finished : Adds g (after (λ r. r) g (finished_of g)) nothing
        adds-finished =
            unfold finished_of in
            record {
              sides = refl;
              allowed = refl;
              openings = omega arith;
              removals = omega arith;
              examinations = omega arith;
              euler = sym (+ℤ_idr g.rec.euler);
            }

  -- ---- any list of calls

  pub call-keeps : (c : Call) (g : State) → (refuses g c ≡ false → Lends Held c) → Good S held total g → Keeps g (call c g).end (call c g).answers
  call-keeps (carve_up_to marks limit) g within good = carve-keeps g good marks limit within
  call-keeps (take_at marks i) g within good = take-keeps g good marks i within
  call-keeps (open_one marks) g within good = open-keeps g good marks within
  call-keeps finish_it g within good = finish-keeps g good

  pub run-keeps : (cs : List Call) (g : State) → AllLend Held g cs → Good S held total g → Keeps g (run cs g).end (run cs g).answers
  unfolding run
  run-keeps [] g within good = kept-as-is g good
  run-keeps (c ∷ cs) g within good =
      let first = call-keeps c g within.0 good in
      let h = (call c g).end in
      let a = (call c g).answers in
      let rest = run-keeps cs h within.1 first.good in
      let p = first.adds in
      let q = rest.adds in
      record {
        good = rest.good;
        adds = record {
          sides = q.sides ∙ p.sides;
          allowed = q.allowed ∙ p.allowed;
          openings = omega (arith, p.openings, q.openings);
          removals = omega (arith, p.removals, q.removals);
          examinations = omega (arith, p.examinations, q.examinations);
          euler = q.euler ∙ ap (λ (n : ℤ). n +ℤ (run cs h).answers.change) p.euler ∙ +ℤ_assoc g.rec.euler a.change (run cs h).answers.change;
        };
      }
