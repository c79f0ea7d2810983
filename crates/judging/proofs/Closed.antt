-- An accepted list that leaves no voxel to open ends in the body that 15 means; so lists of two firms end alike, and as our own calls do.
use mathlib.Core.Path.{◌≡◌, refl, ap, sym, ◌∙◌, subst, fun_ext}
use mathlib.Core.Logic.{inl, inr, ◌↔◌}
use mathlib.Core.Bool.{Bool, true, false, not}
use mathlib.Core.List.{List, []}
use Rattle.std.specs.Prelude.{None}
use Prim.Native.Nat.{ℕ}
use lib.IntN.{ℤ}
use Rattle.prelude.proofs.Bools.{and-true, not-true, not-both, two}
use Rattle.rules.specs.declared.Sides.{Sides}
use Rattle.rules.specs.Grid.{fit_sides, is_in}
use Rattle.rules.specs.Begin.{exposed, inside}
use Rattle.rules.specs.Meaning.{found}
use Rattle.rules.specs.Status.{is_kept, removable, openable}
use Rattle.rules.specs.Marks.{marked, pinned_mark}
use Rattle.rules.specs.Machine.{State, state, farther, to_open}
use Rattle.rules.specs.Demand.{run, FromBegin}
use Rattle.rules.specs.Fifteen.{OpenToBorder, OnlyClosedIn}
use Rattle.coarse.specs.Promises.{FromCoarse}
use Rattle.rules.proofs.Inside.{inside-one-piece}
use Rattle.rules.proofs.Foremost.{farther-order, none_first}
use Rattle.rules.proofs.Topology.Calls.{Good}
use Rattle.rules.proofs.Demand.{all_held, Startable, start_state, FromStart, from-begin}
use Rattle.rules.proofs.Border.{gone-open, open_gone, one_piece}
use Rattle.rules.proofs.Fifteen.{unpinned-walls, fifteen-tells-after, same_kept}
use Rattle.judging.specs.Guarantee.{AcceptedList, left_by, NoneExposed, ClosedIn, ListClosed, FifteenOfLists, CoarseFifteenOfLists, SameLeft}
use Rattle.judging.specs.Guarantee.{TwoFirmsAgree, CoarseFirmsAgree, PlainAndCoarseFirmsAgree, SameAsOurs, TheirsAndOurs, CoarseTheirsAndOurs}
use Rattle.coarse.proofs.Promises.{from-coarse, pins-none}
use Rattle.judging.proofs.Starts.{same-inside}
use Rattle.judging.proofs.Guarantee.{left-stands, left-kept}

-- no mark pins
unmarked-unpinned : (j : ℕ) → (marked []).pinned j ≡ false
unfolding marked pinned_mark
unmarked-unpinned j = refl

module _ (s : Sides) (T : ℕ) (values : List ℤ) (marks : List ℕ) (start : ℕ → Bool) (from : Startable s values start)
    (l : AcceptedList s (start_state s T values (marked marks) start)) where
  abbrev S : ℕ → Bool
  S = is_in (inside s values)

  abbrev begun : State
  begun = start_state s T values (marked marks) start

  abbrev status : List ℕ
  status = (left-stands s T values marks start from l).status

  -- a state of ours with the body of the list
  reached : State
  reached =
      let t = (left-stands s T values marks start from l).counts in
      state
      (record {
        sides = s;
        allowed = T;
        openings = t.opened;
        removals = t.removed;
        examinations = t.examined;
        euler = t.number;
        finished = false;
      }) begun.dist status

  good : Good S all_held (found s start) reached
  unfolding reached
  good =
      subst (λ (S : ℕ → Bool). Good S all_held (found s start) reached) (sym (same-inside s values start from T (marked marks)))
      (record { sound = (left-stands s T values marks start from l).sound; signs = λ f i h. refl })

  module _ (none-exposed : NoneExposed s S (left_by l)) where
    abbrev outer : ℕ → Bool
    outer v = not (S v)

    closed : NoneExposed s S (is_kept status)
    closed = subst (NoneExposed s S) (left-kept s T values marks start from l) none-exposed

    none_left : to_open outer reached ≡ None
    unfolding reached to_open openable removable
    none_left =
        none_first s (farther begun.dist) (farther-order begun.dist) (openable s outer status) (λ v h.
        elim (two (openable s outer status v)) [
          | inl o ↦
              let x = and-true (removable outer status v) (exposed s (is_kept status) v) o in
              let r = and-true (is_kept status v) (outer v) x.0 in
              not-both (exposed s (is_kept status) v) x.1 (closed v h r.0 (not-true (S v) r.1))
          | inr o ↦ o
        ])

    abbrev fits : fit_sides s ≡ true
    fits = from.accepted.sides

    pub closed-status : ClosedIn s S (is_kept status)
    unfolding reached
    closed-status =
        let total = found s start in
        let kept-inside = good.sound.inv.inside in
        let may : (v : ℕ) → is_kept status v ≡ true → S v ≡ false → outer v ≡ true = λ v k m. ap not m in
        record {
          gone-is-open = λ i h. (
            gone-open S all_held total reached good fits S (λ j h m. kept-inside j m) i h,
            open_gone S all_held total reached good fits outer S none_left may i,
          );
          body-one-piece =
              one_piece S all_held total reached good fits outer S none_left may kept-inside
              (inside-one-piece s values from.accepted.some from.accepted.some-negative);
        }

    -- as what 15 tells of status bytes, with no marks
    only-closed : OnlyClosedIn s (inside s values) [] start status
    only-closed =
        record {
          gone-is-open = λ i h.
              subst (λ (solid : ℕ → Bool). (is_kept status i ≡ false) ↔ (OpenToBorder s solid i))
              (sym (fun_ext (λ j. unpinned-walls (inside s values) [] start j (unmarked-unpinned j)))) (closed-status.gone-is-open i h);
          body-one-piece = λ unpinned. closed-status.body-one-piece;
        }

pub list-closed : FromStart ListClosed
list-closed s T values marks start from l none-exposed =
    subst (ClosedIn s (is_in (inside s values))) (sym (left-kept s T values marks start from l)) (closed-status s T values marks start from l none-exposed)

pub fifteen-of-lists : FifteenOfLists
fifteen-of-lists = from-begin ListClosed list-closed

pub coarse-fifteen-of-lists : CoarseFifteenOfLists
coarse-fifteen-of-lists = from-coarse ListClosed list-closed

-- ---- two lists, and a list beside our own calls

pub same_left : FromStart (λ s T values marks start begun. FromStart (SameLeft s values begun))
same_left s T values marks start from s' T' values' marks' start' from' sides same l k closed closed' i h =
    let S = inside s values in
    let S' = inside s' values' in
    ap (λ (kept : ℕ → Bool). kept i) (left-kept s T values marks start from l)
    ∙ same_kept s S [] S' [] (status s T values marks start from l) (status s' T' values' marks' start' from' k) start start'
    (only-closed s T values marks start from l closed)
    (subst (λ (t : Sides). OnlyClosedIn t S' [] start' (status s' T' values' marks' start' from' k)) sides
    (only-closed s' T' values' marks' start' from' k closed'))
    (λ j b. unpinned-walls S [] start j (unmarked-unpinned j) ∙ same j b ∙ sym (unpinned-walls S' [] start' j (unmarked-unpinned j))) i h
    ∙ ap (λ (kept : ℕ → Bool). kept i) (sym (left-kept s' T' values' marks' start' from' k))

pub two-firms-agree : TwoFirmsAgree
two-firms-agree =
    from-begin (λ s T values marks start begun. FromBegin (SameLeft s values begun)) (λ s T values marks start from.
    from-begin (SameLeft s values (start_state s T values (marked marks) start)) (same_left s T values marks start from))

pub coarse-firms-agree : CoarseFirmsAgree
coarse-firms-agree =
    from-coarse (λ s T values marks start begun. FromCoarse (SameLeft s values begun)) (λ s T values marks start from.
    from-coarse (SameLeft s values (start_state s T values (marked marks) start)) (same_left s T values marks start from))

pub plain-and-coarse-firms-agree : PlainAndCoarseFirmsAgree
plain-and-coarse-firms-agree =
    from-begin (λ s T values marks start begun. FromCoarse (SameLeft s values begun)) (λ s T values marks start from.
    from-coarse (SameLeft s values (start_state s T values (marked marks) start)) (same_left s T values marks start from))

pub same-as-ours : FromStart SameAsOurs
same-as-ours s T values marks start from calls lent unpinned fifteen l closed i h =
    let S = inside s values in
    let begun = start_state s T values (marked marks) start in
    ap (λ (kept : ℕ → Bool). kept i) (left-kept s T values marks start from l)
    ∙ same_kept s S [] S lent (status s T values marks start from l) (run calls begun).end.status start start
    (only-closed s T values marks start from l closed)
    (fifteen-tells-after s T values marks start from calls lent (pins-none lent unpinned calls begun) fifteen)
    (λ j b. unpinned-walls S [] start j (unmarked-unpinned j) ∙ sym (unpinned-walls S lent start j (unpinned j))) i h

pub theirs-and-ours : TheirsAndOurs
theirs-and-ours = from-begin SameAsOurs same-as-ours

pub coarse-theirs-and-ours : CoarseTheirsAndOurs
coarse-theirs-and-ours = from-coarse SameAsOurs same-as-ours
