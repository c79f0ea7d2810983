-- A pinned voxel that is hurried besides is examined in vain: carves straight from begin to their end keep the same voxels with the hurry and
-- without it.
use mathlib.Core.Path.{◌≡◌, refl, ap, ap₂, sym, ◌∙◌, subst, fun_ext}
use mathlib.Core.Logic.{◌⊎◌, inl, inr}
use mathlib.Core.Bool.{Bool, true, false, not, cond, ◌&&◌, ◌||◌}
use mathlib.Core.List.{List, [], ◌∷◌, map}
use Rattle.std.specs.Prelude.{Option, None, Some}
use Prim.Native.Nat.{ℕ, zero, suc, ◌+◌, ◌*◌, ◌≤◌, ◌<◌}
use native.Mathlib.Omega.{arith}
use lib.Dec.{eqb}
use lib.ListN.{length}
use lib.IntN.{ℤ, pos}
use borrow.Author.Tests.{eqb-true, ne_eqb}
use Rattle.cells.specs.Groups.{any}
use Rattle.cells.specs.Cells.{test, passes}
use Rattle.prelude.proofs.Bools.{and-true, true-and, and_zero, and_one, or-zero, not-true, not-both, two}
use Rattle.prelude.proofs.Ranges.{any_below, none_below}
use Rattle.rules.specs.declared.Sides.{Sides}
use Rattle.rules.specs.declared.Record.{Record}
use Rattle.rules.specs.Grid.{size, voxels, touch, neighbourhood, is_in}
use Rattle.rules.specs.Checks.{AllHold}
use Rattle.rules.specs.declared.Carving.{Carving}
use Rattle.rules.specs.Answer.{done, Outcome, untouched, Buffers, buffers}
use Rattle.rules.specs.Marks.{Marked, mark_of, pinned_mark, hurried_mark, marked, stray_mark}
use Rattle.rules.specs.Fill.{filled}
use Rattle.rules.specs.Begin.{inside, in_box, exposed, waits_first, worked, start_status, new_record, begin_checks, begun_on, begun, begin}
use Rattle.rules.specs.Meaning.{found}
use Rattle.rules.specs.Status.{is_kept, is_pending, any_pending, test_at, first_of, goes, examined_as, examine, carving}
use Rattle.rules.specs.Machine.{State, state, after, lent_to, outside, may_go, farther, sooner, marked_checks, carved, carve, take, open_next}
use Rattle.rules.specs.Choice.{Foremost}
use Rattle.rules.specs.Fit.{Beginnable, Marking}
use Rattle.rules.specs.Demand.{carve_up_to, call, run}
use Rattle.rules.specs.PinFirst.{marked_before, pin_first, FirstAndAlone, begin_by, carve_by, take_by, open_by, CallsBy, ByMarks, WithoutThrees}
use Rattle.rules.specs.PinFirst.{carves_by, KeepsTheSame, PinFirst}
use Rattle.rules.proofs.Checks.{by-checks, unless-held}
use Rattle.rules.proofs.Fit.{beginnable, begin-lengths, begin-marks, marking-holds}
use Rattle.rules.proofs.Fill.{beginnable-filled}
use Rattle.rules.proofs.Foremost.{sooner-order, first-foremost, first-is-foremost, none-is-first}
use Rattle.rules.proofs.Topology.Surface.{omit}
use Rattle.rules.proofs.Topology.Count.{found_all}
use Rattle.rules.proofs.Topology.Steps.{tally, length_without, pending_without, kept-without, pending-without, length-stayed, kept-stayed}
use Rattle.rules.proofs.Topology.Steps.{pending-stayed}
use Rattle.rules.proofs.Topology.Calls.{carving-ends}
use Rattle.rules.proofs.Topology.Start.{in_grid, status-lent, kept-start, pending-start, worked-signs}
use Rattle.rules.proofs.Demand.{all_held, good_start, box-start, handed}
use Rattle.rules.proofs.NeverUnfit.{start-fit}
use Rattle.rules.proofs.Slices.{next, quiet, carvings-add}

-- ---- the two readings of mark bytes

pub first-and-alone : FirstAndAlone
unfolding marked marked_before pinned_mark hurried_mark
first-and-alone marks = λ n. record { pinned = λ i. eqb (mark_of marks i) 1 || eqb (mark_of marks i) 3; hurried = λ i. hurried (mark_of marks i) n }
  where
    go : (two one three : Bool) → (two ≡ true → one ≡ false) → (two ≡ true → three ≡ false) → two ≡ ((two || three) && not (one || three))
    go true one three e f = sym (ap₂ (λ (p q : Bool). not (p || q)) (e refl) (f refl))
    go false true true e f = refl
    go false true false e f = refl
    go false false true e f = refl
    go false false false e f = refl

    hurried : (x : ℕ) → eqb x 2 ≡ ((eqb x 2 || eqb x 3) && not (eqb x 1 || eqb x 3))
    hurried x =
        go (eqb x 2) (eqb x 1) (eqb x 3) (λ e. ne_eqb x 1 (λ z. omega (arith, eqb-true x 2 e))) (λ e. ne_eqb x 3 (λ z. omega (arith, eqb-true x 2 e)))

pub by-marks : ByMarks
unfolding begin begin_by carve carve_by take take_by open_next open_by
by-marks marks = record { begins = λ s T values dist status. refl; carves = λ limit g. refl; takes = λ i g. refl; opens = λ g. refl }

pub without-threes : WithoutThrees
without-threes marks no-three = subst (λ (m : Marked). CallsBy m marks) same (by-marks marks)
  where
    same : marked marks ≡ marked_before marks
    same =
        unfold marked marked_before pinned_mark hurried_mark in
        λ n. record {
          pinned = λ i. eqb (mark_of marks i) 1 || eqb (mark_of marks i) 3;
          hurried = λ i. sym (ap (λ (t : Bool). eqb (mark_of marks i) 2 || t) (ne_eqb (mark_of marks i) 3 (no-three i)) ∙ or-zero (eqb (mark_of marks i) 2)) n;
        }

-- ---- tests

omit-pinned : (p q e : Bool) → (e ≡ true → q ≡ true) → (p && not q) ≡ ((p && not e) && not q)
omit-pinned true true true h = refl
omit-pinned true true false h = refl
omit-pinned true false true h = sym (h refl)
omit-pinned true false false h = refl
omit-pinned false q e h = refl

omit-less : (p q e : Bool) → ((p && not q) && not e) ≡ ((p && not e) && not q)
omit-less true true true = refl
omit-less true true false = refl
omit-less true false true = refl
omit-less true false false = refl
omit-less false q e = refl

woken-less : (p q e k n t : Bool) → (((p && not q) && not e) || (k && ((n && not q) && t))) ≡ (((p && not e) || (k && ((n && not q) && t))) && not q)
woken-less p true e k n t =
    ap₂ (λ (x y : Bool). (x && not e) || (k && (y && t))) (and_zero p) (and_zero n) ∙ and_zero k ∙ sym (and_zero ((p && not e) || (k && ((n && false) && t))))
woken-less p false e k n t =
    ap (λ (x : Bool). (x && not e) || (k && ((n && true) && t))) (and_one p) ∙ sym (and_one ((p && not e) || (k && ((n && true) && t))))

waits-less : (g o h p x : Bool) → (g && (o && ((h && not p) || (not p && x)))) ≡ ((g && (o && (h || (not p && x)))) && not p)
waits-less true true true true x = refl
waits-less true true true false x = refl
waits-less true true false true x = refl
waits-less true true false false x = sym (and_one x)
waits-less true false h p x = refl
waits-less false o h p x = refl

-- ---- one examination: sets m, and m with the pins first

module _ (s : Sides) (dist : List ℤ) (m : Marked) where
  -- the same voxels may go by both
  abbrev free : ℕ → Bool
  free = may_go m dist

  pinned-stays : (i : ℕ) → m.pinned i ≡ true → free i ≡ false
  unfolding may_go
  pinned-stays i e = ap (λ (p : Bool). outside dist i && not p) e ∙ and_zero (outside dist i)

  unpinned-order : (i j : ℕ) → m.pinned i ≡ false → m.pinned j ≡ false → sooner (pin_first m) dist i j ≡ sooner m dist i j
  unfolding sooner
  unpinned-order i j pi pj =
      let hurried : (k : ℕ) → m.pinned k ≡ false → (m.hurried k && not (m.pinned k)) ≡ m.hurried k =
      λ k e. ap (λ (t : Bool). m.hurried k && not t) e ∙ and_one (m.hurried k) in
      ap₂ (λ (h k : Bool). cond h (not k || farther dist i j) (not k && farther dist i j)) (hurried i pi) (hurried j pj)

  unpinned : (ℕ → Bool) → ℕ → Bool
  unpinned p j = p j && not (m.pinned j)

  -- the same voxels are kept, and pending are those that are not pinned
  record Like (status status' : List ℕ) : Type 0 where
    lent : length status ≡ size s
    lent' : length status' ≡ size s
    kept : is_kept status' ≡ is_kept status
    pending : is_pending status' ≡ unpinned (is_pending status)

  module _ (status status' : List ℕ) (like : Like status status') where
    same-goes : (i : ℕ) → goes s free status' i ≡ goes s free status i
    unfolding goes test_at
    same-goes i = ap (λ (k : ℕ → Bool). passes (test (neighbourhood s k i)) && free i) like.kept

    pending-both : (j : ℕ) → is_pending status' j ≡ true → (is_pending status j ≡ true) × (m.pinned j ≡ false)
    unfolding unpinned
    pending-both j e =
        let r = and-true (is_pending status j) (not (m.pinned j)) (ap (λ (p : ℕ → Bool). p j) (sym like.pending) ∙ e) in
        (r.0, not-true (m.pinned j) r.1)

    pending-too : (j : ℕ) → is_pending status j ≡ true → m.pinned j ≡ false → is_pending status' j ≡ true
    unfolding unpinned
    pending-too j e q = ap (λ (p : ℕ → Bool). p j) like.pending ∙ true-and (is_pending status j) (not (m.pinned j)) e (ap not q)

    -- the voxel that comes first is first in both, unless it is pinned
    same-choice : (i : ℕ) → Foremost s (sooner m dist) (is_pending status) i → m.pinned i ≡ false
        → first_of s (sooner (pin_first m) dist) (is_pending status') ≡ Some i
    same-choice i f q =
        (first-is-foremost s (sooner (pin_first m) dist) (sooner-order (pin_first m) dist) (is_pending status') i).1 (
        record {
          below = f.below;
          chosen = pending-too i f.chosen q;
          farthest = λ j h p. (let r = pending-both j p in unpinned-order j i r.1 q ∙ f.farthest j h r.0);
          earliest = λ j h p. (let r = pending-both j p in unpinned-order i j q r.1 ∙ f.earliest j h r.0);
        }
        )

    quiet-too : any_pending s status ≡ false → any_pending s status' ≡ false
    unfolding any_pending voxels
    quiet-too e =
        elim (two (any (is_pending status') (voxels s))) [
          | inl t ↦
              let r = any_below (is_pending status') (size s) t in
              not-both (is_pending status r.0) (pending-both r.0 r.2).0 (none_below (is_pending status) (size s) e r.0 r.1)
          | inr f ↦ f
        ]

    module _ (i : ℕ) (h : i < size s) (waits : is_pending status i ≡ true) where
      -- a pinned voxel is examined in vain
      in-vain : m.pinned i ≡ true → Like (examine s free status i) status'
      unfolding examine goes
      in-vain q =
          subst (λ (t : Bool). Like (examined_as t s free status i) status')
          (sym (ap (λ (t : Bool). passes (test_at s status i) && t) (pinned-stays i q) ∙ and_zero (passes (test_at s status i))))
          (record {
            lent = length-stayed s status like.lent i h waits;
            lent' = like.lent';
            kept = like.kept ∙ sym (kept-stayed s status like.lent i h waits);
            pending = like.pending ∙ fun_ext left ∙ ap unpinned (sym (pending-stayed s status like.lent i h waits));
          })
        where
          left : (j : ℕ) → unpinned (is_pending status) j ≡ unpinned (omit (is_pending status) i) j
          left j =
              unfold omit unpinned in
              omit-pinned (is_pending status j) (m.pinned j) (eqb j i) (λ e. ap m.pinned (eqb-true j i e) ∙ q)

      -- any other is examined in both, with one outcome
      in_both : m.pinned i ≡ false → Like (examine s free status i) (examine s free status' i)
      unfolding examine
      in_both q =
          subst (λ (t : Bool). Like (examine s free status i) (examined_as t s free status' i)) (sym (same-goes i)) (go (goes s free status i))
        where
          waits' : is_pending status' i ≡ true
          waits' = pending-too i waits q

          go : (t : Bool) → Like (examined_as t s free status i) (examined_as t s free status' i)
          go true =
              record {
                lent = length_without s free status like.lent i;
                lent' = length_without s free status' like.lent' i;
                kept =
                    kept-without s free status' like.lent' i
                    ∙ ap (λ (k : ℕ → Bool). omit k i) like.kept
                    ∙ sym (kept-without s free status like.lent i);
                pending =
                    pending-without s free status' like.lent' i
                    ∙ fun_ext woke
                    ∙ ap unpinned (sym (pending-without s free status like.lent i));
              }
            where
              woke : (j : ℕ) → pending_without s free status' like.lent' i j ≡ unpinned (pending_without s free status like.lent i) j
              woke j =
                  unfold omit may_go unpinned in
                  ap₂ (λ (p k : ℕ → Bool). (p j && not (eqb j i)) || ((k j && not (eqb j i)) && (free j && touch s i j))) like.pending like.kept
                  ∙ woken-less (is_pending status j) (m.pinned j) (eqb j i) (is_kept status j && not (eqb j i)) (outside dist j) (touch s i j)
          go false =
              record {
                lent = length-stayed s status like.lent i h waits;
                lent' = length-stayed s status' like.lent' i h waits';
                kept = kept-stayed s status' like.lent' i h waits' ∙ like.kept ∙ sym (kept-stayed s status like.lent i h waits);
                pending =
                    pending-stayed s status' like.lent' i h waits'
                    ∙ fun_ext left
                    ∙ ap unpinned (sym (pending-stayed s status like.lent i h waits));
              }
            where
              left : (j : ℕ) → omit (is_pending status') i j ≡ unpinned (omit (is_pending status) i) j
              left j =
                  unfold omit unpinned in
                  ap (λ (p : ℕ → Bool). p j && not (eqb j i)) like.pending ∙ omit-less (is_pending status j) (m.pinned j) (eqb j i)

  -- ---- the whole run

  abbrev ran : Marked → ℕ → List ℕ → List ℕ
  ran n limit status = (carving s free (sooner n dist) limit status).status

  -- so many examinations bring the run with the pins first to its end, with these voxels kept
  record Ended (kept : ℕ → Bool) (status' : List ℕ) : Type 0 where
    limit : ℕ
    quiet : any_pending s (ran (pin_first m) limit status') ≡ false
    same : is_kept (ran (pin_first m) limit status') ≡ kept

  follow : (limit : ℕ) (status status' : List ℕ) → Like status status' → any_pending s (ran m limit status) ≡ false
      → Ended (is_kept (ran m limit status)) status'
  unfolding carving
  follow zero status status' like e = record { limit = 0; quiet = quiet-too status status' like e; same = like.kept }
  follow (suc limit) status status' like e =
      go (first_of s (sooner m dist) (is_pending status)) refl e (follow limit)
    where
      go : (o : Option ℕ) → first_of s (sooner m dist) (is_pending status) ≡ o
          → any_pending s (next s free (sooner m dist) limit status o).status ≡ false
          → ((x x' : List ℕ) → Like x x' → any_pending s (ran m limit x) ≡ false → Ended (is_kept (ran m limit x)) x')
          → Ended (is_kept (next s free (sooner m dist) limit status o).status) status'
      go None c e rest = record { limit = 0; quiet = quiet-too status status' like e; same = like.kept }
      go (Some i) c e rest = pick (two (m.pinned i))
        where
          f : Foremost s (sooner m dist) (is_pending status) i
          f = first-foremost s (sooner m dist) (sooner-order m dist) (is_pending status) i c

          pick : (m.pinned i ≡ true) ⊎ (m.pinned i ≡ false) → Ended (is_kept (ran m limit (examine s free status i))) status'
          pick (inl q) = rest (examine s free status i) status' (in-vain status status' like i f.below f.chosen q) e
          pick (inr q) =
              let r = rest (examine s free status i) (examine s free status' i) (in_both status status' like i f.below f.chosen q) e in
              let one : ran (pin_first m) (suc r.limit) status' ≡ ran (pin_first m) r.limit (examine s free status' i) =
              unfold carving in
              ap (λ (o : Option ℕ). (next s free (sooner (pin_first m) dist) r.limit status' o).status) (same-choice status status' like i f q) in
              record { limit = suc r.limit; quiet = ap (any_pending s) one ∙ r.quiet; same = ap is_kept one ∙ r.same }

-- ---- a run has one end

module _ (s : Sides) (free : ℕ → Bool) (ahead : ℕ → ℕ → Bool) (status : List ℕ) where
  abbrev at : ℕ → List ℕ
  at n = (carving s free ahead n status).status

  rests : (n k : ℕ) → any_pending s (at n) ≡ false → at (n + k) ≡ at n
  unfolding any_pending voxels
  rests n k e =
      ap (λ p. p.status) (carvings-add s free ahead n k status)
      ∙ ap (λ p. p.status) (quiet s free ahead k (at n) ((none-is-first s ahead (is_pending (at n))).1 (none_below (is_pending (at n)) (size s) e)))

  one_end : (n k : ℕ) → any_pending s (at n) ≡ false → any_pending s (at k) ≡ false → at n ≡ at k
  one_end n k e f = let turn : n + k ≡ k + n = omega arith in sym (rests n k e) ∙ ap at turn ∙ rests k n f

-- ---- carves in a row

module _ (m : Marked) (marks : List ℕ) where
  -- h is so many examinations on
  record On (g h : State) : Type 0 where
    limit : ℕ
    sides : h.rec.sides ≡ g.rec.sides
    dist : h.dist ≡ g.dist
    status : h.status ≡ (carving g.rec.sides (may_go m g.dist) (sooner m g.dist) limit g.status).status

  carve-on : (limit : ℕ) (g : State) → On g (after (λ r. r.next) g (carve_by m marks limit g))
  unfolding carve_by carved carving
  carve-on limit g =
      by-checks (untouched (lent_to g)) (carved (may_go m g.dist) (sooner m g.dist) limit g) (λ o. On g (after (λ r. r.next) g o))
      (marked_checks marks g)
      (λ n. record { limit = 0; sides = refl; dist = refl; status = refl }) (λ h. record { limit = limit; sides = refl; dist = refl; status = refl })

  on-and-on : (g h k : State) → On g h → On h k → On g k
  on-and-on g h k p q =
      record {
        limit = p.limit + q.limit;
        sides = q.sides ∙ p.sides;
        dist = q.dist ∙ p.dist;
        status =
            q.status
            ∙ ap₂ (λ (s : Sides) (d : List ℤ). (carving s (may_go m d) (sooner m d) q.limit h.status).status) p.sides p.dist
            ∙ ap (λ (x : List ℕ). (carving g.rec.sides free ahead q.limit x).status) p.status
            ∙ ap (λ r. r.status) (sym (carvings-add g.rec.sides free ahead p.limit q.limit g.status));
      }
    where
      free : ℕ → Bool
      free = may_go m g.dist

      ahead : ℕ → ℕ → Bool
      ahead = sooner m g.dist

  carves-on : (limits : List ℕ) (g : State) → On g (carves_by m marks limits g)
  unfolding carves_by carving
  carves-on [] g = record { limit = 0; sides = refl; dist = refl; status = refl }
  carves-on (limit ∷ limits) g =
      let h = after (λ r. r.next) g (carve_by m marks limit g) in
      on-and-on g h (carves_by m marks limits h) (carve-on limit g) (carves-on limits h)

run-carves : (marks limits : List ℕ) (g : State) → (run (map (carve_up_to marks) limits) g).end ≡ carves_by (marked marks) marks limits g
unfolding run call carves_by carve carve_by
run-carves marks [] g = refl
run-carves marks (limit ∷ limits) g = run-carves marks limits (call (carve_up_to marks limit) g).end

-- ---- from begin

module _ (s : Sides) (T : ℕ) (values : List ℤ) (accepted : Beginnable s values) (marks : List ℕ) where
  abbrev S : List ℕ
  S = inside s values

  abbrev distances : List ℤ
  distances = worked s values S

  abbrev first : Marked → List ℕ
  first m = start_status s m S (in_box s S)

  begin-like : (m : Marked) → Like s distances m (first m) (first (pin_first m))
  begin-like m =
      record {
        lent = status-lent s m S (in_box s S);
        lent' = status-lent s (pin_first m) S (in_box s S);
        kept = fun_ext (λ j. kept-start s (pin_first m) S (in_box s S) j ∙ sym (kept-start s m S (in_box s S) j));
        pending = fun_ext less;
      }
    where
      less : (j : ℕ) → is_pending (first (pin_first m)) j ≡ unpinned s distances m (is_pending (first m)) j
      less j =
          unfold waits_first unpinned in
          pending-start s (pin_first m) S (in_box s S) j
          ∙ waits-less (in_grid s (in_box s S) j) (not (is_in S j)) (m.hurried j) (m.pinned j) (exposed s (in_box s S) j)
          ∙ sym (ap (λ (t : Bool). t && not (m.pinned j)) (pending-start s m S (in_box s S) j))

  abbrev ends-in : Marked → ℕ → List ℕ
  ends-in m limit = (carving s (may_go m distances) (sooner m distances) limit (first m)).status

  same_end : (m : Marked) (now before : ℕ) → any_pending s (ends-in (pin_first m) now) ≡ false → any_pending s (ends-in m before) ≡ false
      → is_kept (ends-in (pin_first m) now) ≡ is_kept (ends-in m before)
  unfolding may_go
  same_end m now before e f =
      let r = follow s distances m before (first m) (first (pin_first m)) (begin-like m) f in
      ap is_kept (one_end s (may_go m distances) (sooner (pin_first m) distances) (first (pin_first m)) now r.limit e r.quiet) ∙ r.same

  -- one carve of 27 n examinations comes to the end, whatever the marks ask for
  comes-to-end : length marks ≡ size s → stray_mark marks ≡ false → (m : Marked) (limit : ℕ) → 27 * size s ≤ limit
      → any_pending s (carves_by m marks (limit ∷ []) (handed s T values m)).status ≡ false
  unfolding carves_by carve_by carved
  comes-to-end n k m limit h =
      let g = handed s T values m in
      let free = may_go m distances in
      let ahead = sooner m distances in
      let box = in_box s S in
      let from = box-start s values accepted in
      let w : Marking marks g = record { working = record { fit = start-fit s values box from T m; unfinished = refl }; lent = n; known = k } in
      ap (λ (o : Outcome Buffers Carving). any_pending s (after (λ r. r.next) g o).status)
      (unless-held (untouched (lent_to g)) (carved free ahead limit g) (marked_checks marks g) (marking-holds marks g w))
      ∙ carving-ends s (is_in S) m.pinned all_held free ahead (sooner-order m distances) (found s box) (λ j e. refl)
      (λ j l. unfold may_go outside in ap (λ (t : Bool). not t && not (m.pinned j)) (worked-signs s values j l))
      limit (first m) (tally 0 0 0 (pos 1)) (good_start s values box from T m all_held (λ j e. refl)).sound (omega (arith, found_all s box))

  -- by the sets now, and by those before
  record Same (now before : Marked) : Type 0 where
    kept : (i : ℕ) → is_kept (first now) i ≡ is_kept (first before) i
    pending : (i : ℕ) → is_pending (first now) i ≡ (is_pending (first before) i && not (now.pinned i))
    end_kept : (limits limits_before : List ℕ)
        → let end = carves_by now marks limits (handed s T values now) in
        let end_before = carves_by before marks limits_before (handed s T values before) in
        any_pending s end.status ≡ false → any_pending s end_before.status ≡ false → (i : ℕ) → is_kept end.status i ≡ is_kept end_before.status i

  pins-first : (m : Marked) → Same (pin_first m) m
  unfolding unpinned
  pins-first m =
      record {
        kept = λ i. ap (λ (k : ℕ → Bool). k i) (begin-like m).kept;
        pending = λ i. ap (λ (p : ℕ → Bool). p i) (begin-like m).pending;
        end_kept = λ limits limits_before e f i.
            (let p = carves-on (pin_first m) marks limits (handed s T values (pin_first m)) in
            let q = carves-on m marks limits_before (handed s T values m) in
            ap (λ (x : List ℕ). is_kept x i) p.status
            ∙ ap (λ (k : ℕ → Bool). k i)
            (same_end m p.limit q.limit (ap (any_pending s) (sym p.status) ∙ e) (ap (any_pending s) (sym q.status) ∙ f))
            ∙ ap (λ (x : List ℕ). is_kept x i) (sym q.status));
      }

  keeps-the-same : length marks ≡ size s → stray_mark marks ≡ false
      → KeepsTheSame s marks (handed s T values (marked marks)) (handed s T values (marked_before marks))
  keeps-the-same n k =
      let same : Same (marked marks) (marked_before marks) =
      subst (λ (now : Marked). Same now (marked_before marks)) (sym (first-and-alone marks)) (pins-first (marked_before marks)) in
      let g = handed s T values (marked marks) in
      record {
        begun-distances = refl;
        begun_kept = same.kept;
        begun-pending = same.pending;
        end_kept = λ limits limits_before.
            subst (λ (end : State). let end_before = carves_by (marked_before marks) marks limits_before (handed s T values (marked_before marks)) in
            any_pending s end.status ≡ false → any_pending s end_before.status ≡ false → (i : ℕ) → is_kept end.status i ≡ is_kept end_before.status i)
            (sym (run-carves marks limits g)) (same.end_kept limits limits_before);
        ends = λ limit h. ap (λ (end : State). any_pending s end.status) (run-carves marks (limit ∷ []) g) ∙ comes-to-end n k (marked marks) limit h;
        ended-before = comes-to-end n k (marked_before marks);
      }

-- ---- begin by either rule

module _ (s : Sides) (T : ℕ) (values : List ℤ) (marks : List ℕ) (dist : List ℤ) (status : List ℕ) where
  accepted-checks : (r : Record) → (begin s T values marks dist status).answer ≡ done r → AllHold (begin_checks s values marks dist status)
  unfolding begin
  accepted-checks r =
      by-checks (untouched (buffers dist status)) (begun s T values (marked marks))
      (λ o. o.answer ≡ done r → AllHold (begin_checks s values marks dist status)) (begin_checks s values marks dist status)
      (λ n f. let z : ◌≡◌ {A = ℕ} 0 1 = cc in let y : ⊥ = omega arith in absurd y) (λ h f. h)

  module _ (h : AllHold (begin_checks s values marks dist status)) where
    is-begun : (m : Marked) → begin_by m s T values marks dist status ≡ begun s T values m
    unfolding begin_by
    is-begun m = unless-held (untouched (buffers dist status)) (begun s T values m) (begin_checks s values marks dist status) h

    answers : (m : Marked) → (begin_by m s T values marks dist status).answer ≡ done (new_record s T)
    unfolding begun begun_on
    answers m = ap (λ (o : Outcome Buffers Record). o.answer) (is-begun m)

    hands_out : (r : Record) → new_record s T ≡ r → (m : Marked)
        → handed s T (filled s values) m ≡ (let b = begin_by m s T values marks dist status in state r b.lent.dist b.lent.status)
    unfolding begun begun_on
    hands_out r e m = ap₂ (λ (r : Record) (o : Outcome Buffers Record). state r o.lent.dist o.lent.status) e (sym (is-begun m))

pub pin-first : PinFirst
unfolding begin begin_by
pin-first s T values marks dist status r e =
    let used = filled s values in
    let h = accepted-checks s T values marks dist status r e in
    let now = marked marks in
    let before = marked_before marks in
    let told : (begin s T values marks dist status).answer ≡ done (new_record s T) = answers s T values marks dist status h now in
    let same : new_record s T ≡ r = cc in (
      answers s T values marks dist status h before ∙ ap done same,
      subst (KeepsTheSame s marks _) (hands_out s T values marks dist status h r same before)
          (subst (λ (g : State). KeepsTheSame s marks g (handed s T used before)) (hands_out s T values marks dist status h r same now)
          (keeps-the-same s T used (beginnable-filled s values (beginnable s values marks dist status h)) marks
          (begin-lengths s values marks dist status h).marks-len (begin-marks s values marks dist status h))),
    )
