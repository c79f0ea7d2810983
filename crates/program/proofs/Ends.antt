-- Every carve of the program empties the pending set, no call of it is refused as unfit, and the rounds go on until open has nothing left.
use mathlib.Core.Path.{◌≡◌, refl, ap, sym, ◌∙◌, subst}
use mathlib.Core.Logic.{◌⊎◌, inl, inr}
use mathlib.Core.Bool.{Bool, true, false, not, cond, true≢false}
use mathlib.Core.List.{List, [], ◌∷◌, ◌++◌}
use Prim.Native.Nat.{ℕ, zero, suc, ◌*◌, ◌≤◌}
use native.Mathlib.Omega.{arith}
use lib.Dec.{eqb}
use lib.IntN.{ℤ}
use lib.ListN.{length}
use Rattle.prelude.proofs.Bools.{not-false}
use Rattle.rules.specs.declared.Sides.{Sides}
use Rattle.rules.specs.declared.Record.{Record}
use Rattle.rules.specs.Grid.{fit_sides, size}
use Rattle.rules.specs.Checks.{◌when◌, unless, AllHold}
use Rattle.rules.specs.declared.Opening.{Opening}
use Rattle.rules.specs.Answer.{refused, done, Outcome, untouched, Buffers, buffers}
use Rattle.rules.specs.Marks.{marked, stray_mark}
use Rattle.rules.specs.Begin.{new_record, begin_checks, begun, begin}
use Rattle.rules.specs.Status.{any_pending}
use Rattle.rules.specs.Machine.{State, state, lent_to, may_go, sooner, state_checks, working_checks, marked_checks, quiet_checks, opening_checks, finish_checks}
use Rattle.rules.specs.Machine.{carved, carve, to_open, is_none, the_voxel, opened, open_next, as_finished, finished_of, finish}
use Rattle.rules.specs.Demand.{Call, carve_up_to, open_one, call, run}
use Rattle.rules.proofs.Checks.{append-hold, by-checks, unless-held, unless-after}
use Rattle.rules.proofs.Fit.{begin-lengths, begin-marks, fit-state, marking-holds}
use Rattle.rules.proofs.Demand.{by-begin, run-append}
use Rattle.rules.proofs.NeverUnfit.{never-unfit, carve-ends}
use Rattle.format.proofs.Sizes.{size_small}
use Rattle.program.specs.Program.{no_limit, is_refused, after_carve, after_open, opens, carve_and_open, rounds_left}
use Rattle.program.specs.Ends.{rounds, CarvesToEmpty, Through, EveryCarveEmpties, RoundsGoThrough}
use Rattle.program.proofs.Rounds.{carve-same, open-refused, open_done, round, round-used}

-- what begin hands out is not finished, and has the sides that it was given
module _ (s : Sides) (T : ℕ) (values : List ℤ) (marks : List ℕ) (dist : List ℤ) (status : List ℕ) (r : Record)
    (e : (begin s T values marks dist status).answer ≡ done r) where
  is-new : new_record s T ≡ r
  is-new = by-begin (λ g. new_record s T ≡ g.rec) s T values marks dist status (λ accepted. refl) r e

  abbrev start : State
  start = let b = begin s T values marks dist status in state r b.lent.dist b.lent.status

  -- the marks that begin took, every call takes
  lent-marks : (length marks ≡ size s) × (stray_mark marks ≡ false)
  unfolding begin begun
  lent-marks =
      by-checks (untouched (buffers dist status)) (begun s T values (marked marks))
      (λ o. o.answer ≡ done r → (length marks ≡ size s) × (stray_mark marks ≡ false))
      (begin_checks s values marks dist status)
      (λ n f. let z : ◌≡◌ {A = ℕ} 0 1 = cc in let y : ⊥ = omega arith in absurd y)
      (λ h f. ((begin-lengths s values marks dist status h).marks-len, begin-marks s values marks dist status h)) e

  abbrev free : State → ℕ → Bool
  free g = may_go (marked marks) g.dist

  -- a state that calls lead to from there, unfinished
  record Reached (g : State) : Type 0 where
    calls : List Call
    leads : (run calls start).end ≡ g
    sides : g.rec.sides ≡ s
    unfinished : g.rec.finished ≡ false

  reached-start : Reached start
  reached-start =
      record {
        calls = [];
        leads = unfold run in refl;
        sides = ap (λ (r : Record). r.sides) (sym is-new);
        unfinished = ap (λ (r : Record). r.finished) (sym is-new);
      }

  one_more : (c : Call) (g : State) → (x : Reached g) → (run (x.calls ++ (c ∷ [])) start).end ≡ (call c g).end
  unfolding run
  one_more c g x = run-append x.calls (c ∷ []) start ∙ ap (λ (h : State). (call c h).end) x.leads

  module _ (g : State) (x : Reached g) where
    fit : AllHold (state_checks g)
    fit = subst (λ (h : State). AllHold (state_checks h)) x.leads (never-unfit s T values marks dist status r e x.calls)

    working : AllHold (working_checks g)
    working = append-hold (state_checks g) (8 when g.rec.finished ∷ []) fit (x.unfinished, tt)

    marked-fit : AllHold (marked_checks marks g)
    marked-fit =
        let h = fit-state g fit in
        marking-holds marks g
        (record { working = record { fit = h; unfinished = x.unfinished }; lent = lent-marks.0 ∙ ap size (sym x.sides); known = lent-marks.1 })

    reached-carve : Reached (after_carve marks g)
    reached-carve =
        let c = carve-same marks g in
        record {
          calls = x.calls ++ (carve_up_to marks no_limit ∷ []);
          leads = unfold after_carve in unfold call in one_more (carve_up_to marks no_limit) g x;
          sides = c.sides ∙ x.sides;
          unfinished = c.finished ∙ x.unfinished;
        }

    reached-open : opens marks g ≡ true → Reached (after_open marks g)
    reached-open f =
        let o = open_done marks g f in
        record {
          calls = x.calls ++ (open_one marks ∷ []);
          leads = unfold after_open in unfold call in one_more (open_one marks) g x;
          sides = o.sides ∙ x.sides;
          unfinished = o.finished ∙ x.unfinished;
        }

    -- more examinations are allowed than the grid can take
    enough : 27 * size s ≤ no_limit
    enough = omega (arith, size_small s (sym (ap fit_sides x.sides) ∙ not-false _ fit.0))

    abbrev Empties : State → Type 0
    Empties h = (carve marks no_limit h ≡ carved (may_go (marked marks) h.dist) (sooner (marked marks) h.dist) no_limit h)
        × (any_pending s (carve marks no_limit h).lent.status ≡ false)

    empties : Empties g
    empties =
        subst (λ (h : State). h.rec.finished ≡ false → Empties h) x.leads
        (carve-ends s T values marks dist status r e x.calls marks lent-marks.0 lent-marks.1 no_limit enough)
        x.unfinished

    carves-to-empty : CarvesToEmpty marks g
    unfolding after_carve
    carves-to-empty =
        record { works = empties.0; empties = ap (λ (s : Sides). any_pending s (carve marks no_limit g).lent.status) x.sides ∙ empties.1 }

  -- ---- the end

  module _ (g : State) (x : Reached g) (quiet : any_pending g.rec.sides g.status ≡ false) where
    -- of open's checks, 14 and 15 are left
    last-checks : open_next marks g ≡ unless (opening_checks (free g) g) (untouched (lent_to g)) (opened (free g) (the_voxel (to_open (free g) g)) g)
    unfolding open_next
    last-checks =
        unless-after (untouched (lent_to g)) (opened (free g) (the_voxel (to_open (free g) g)) g) (marked_checks marks g)
        (quiet_checks g ++ opening_checks (free g) g) (marked-fit g x)
        ∙ unless-after (untouched (lent_to g)) (opened (free g) (the_voxel (to_open (free g) g)) g) (quiet_checks g) (opening_checks (free g) g) (quiet, tt)

    refuses : opens marks g ≡ false → ((open_next marks g).answer ≡ refused 14) ⊎ ((open_next marks g).answer ≡ refused 15)
    unfolding opens unless opened
    refuses f =
        subst (λ (o : Outcome Buffers Opening). not (is_refused o.answer) ≡ false → (o.answer ≡ refused 14) ⊎ (o.answer ≡ refused 15)) (sym last-checks)
        (go (eqb g.rec.openings g.rec.allowed) (is_none (to_open (free g) g))) f
      where
        go : (t u : Bool) →
            let o = cond t (untouched (lent_to g) 14) (cond u (untouched (lent_to g) 15) (opened (free g) (the_voxel (to_open (free g) g)) g)) in
            not (is_refused o.answer) ≡ false → (o.answer ≡ refused 14) ⊎ (o.answer ≡ refused 15)
        go true u f = inl refl
        go false true f = inr refl
        go false false f = absurd (true≢false f)

    finishes : (finish g).answer ≡ done (as_finished g.rec)
    unfolding finish finished_of
    finishes =
        ap (λ (o : Outcome Buffers Record). o.answer)
        (unless-held (untouched (lent_to g)) (finished_of g) (finish_checks g) (append-hold (working_checks g) (quiet_checks g) (working g x) (quiet, tt)))

  goes_through : (n : ℕ) (g : State) → Reached g → rounds_left g.rec ≡ n → Through marks (carve_and_open marks n g)
  goes_through zero g x q = let z : ⊥ = omega arith in absurd z
  goes_through (suc n) g x q = go (opens marks h) refl (goes_through n (after_open marks h))
    where
      h : State
      h = after_carve marks g

      go :
          (t : Bool)
          → opens marks h ≡ t
          → (Reached (after_open marks h) → rounds_left (after_open marks h).rec ≡ n → Through marks (carve_and_open marks n (after_open marks h)))
          → Through marks (carve_and_open marks (suc n) g)
      go true f rest =
          subst (Through marks) (sym (round marks n g true f)) (rest (reached-open h (reached-carve g x) f) (omega (arith, round-used marks g f)))
      go false f rest =
          let y = reached-carve g x in
          let empty = ap (λ (s : Sides). any_pending s h.status) (carve-same marks g).sides ∙ (carves-to-empty g x).empties in
          subst (Through marks) (sym (round marks n g false f)) (record { empty = empty; refuses = refuses h y empty f; finishes = finishes h y empty })

  -- after so many rounds of calls, refused or not
  one-round : (n : ℕ) (g : State) → (run (rounds marks (suc n)) g).end ≡ (run (rounds marks n) (after_open marks (after_carve marks g))).end
  unfolding run rounds call after_carve after_open
  one-round n g = refl

  reached-rounds : (n : ℕ) (g : State) → Reached g → Reached (run (rounds marks n) g).end
  unfolding run rounds
  reached-rounds zero g x = x
  reached-rounds (suc n) g x =
      subst Reached (sym (one-round n g)) (reached-rounds n (after_open marks (after_carve marks g)) (go (opens marks (after_carve marks g)) refl))
    where
      go : (t : Bool) → opens marks (after_carve marks g) ≡ t → Reached (after_open marks (after_carve marks g))
      go true f = reached-open (after_carve marks g) (reached-carve g x) f
      go false f = subst Reached (sym (open-refused marks (after_carve marks g) f)) (reached-carve g x)

pub every-carve-empties : EveryCarveEmpties
every-carve-empties n s T values marks dist status r e =
    let x = reached-rounds s T values marks dist status r e n _ (reached-start s T values marks dist status r e) in
    carves-to-empty s T values marks dist status r e _ x

pub rounds-go-through : RoundsGoThrough
rounds-go-through s T values marks dist status r e =
    goes_through s T values marks dist status r e _ _ (reached-start s T values marks dist status r e) refl
