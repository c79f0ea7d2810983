-- The list of our own calls is accepted exactly where they open last and none passes at their end, and the judgement has the record's counts; so it is
-- where nothing is pinned, and nothing is pending at the end.
use mathlib.Core.Path.{◌≡◌, refl, ap, sym, ◌∙◌, subst}
use mathlib.Core.Bool.{Bool, true, false, not, true≢false}
use mathlib.Core.List.{List, [], ◌∷◌}
use Prim.Native.Nat.{ℕ}
use native.Mathlib.Omega.{arith}
use lib.IntN.{ℤ}
use Rattle.prelude.proofs.Ranges.{none_below}
use Rattle.rules.specs.declared.Sides.{Sides}
use Rattle.rules.specs.Grid.{size, voxels}
use Rattle.rules.specs.Answer.{done, untouched}
use Rattle.rules.specs.Checks.{◌when◌}
use Rattle.rules.specs.Meaning.{found}
use Rattle.rules.specs.Status.{is_kept, is_pending, any_pending}
use Rattle.rules.specs.Marks.{marked}
use Rattle.rules.specs.Machine.{State, lent_to, is_inside, may_go, state_checks, open_checks, to_open, the_voxel, opened, open_next}
use Rattle.rules.specs.Demand.{Call, carve_up_to, take_at, open_one, finish_it, is_refused, refuses, AllLend, call, run}
use Rattle.rules.proofs.Checks.{by-checks, append-hold}
use Rattle.rules.proofs.Fit.{state-fits, openable}
use Rattle.rules.proofs.Topology.Calls.{Good, Held, call-keeps}
use Rattle.rules.proofs.Demand.{lends-map, all_held, held_all, Startable, start_state, FromStart, from-begin}
use Rattle.rules.proofs.NeverUnfit.{start-fit}
use Rattle.format.proofs.Sizes.{size_small}
use Rattle.judging.specs.declared.Judgement.{Judgement}
use Rattle.judging.specs.Judge.{Entry, entries_in, Body, start_from, judge}
use Rattle.judging.specs.Accepted.{NonePasses, Accepted, AllReadable, counts_of}
use Rattle.judging.specs.Own.{list_bytes, own_list, OwnAccepted, opens_at, OpenLast}
use Rattle.judging.specs.Own.{AcceptedOpeningLast, OwnListExactlyWhen, CoarseOwnListExactlyWhen, PinNothing, UnpinnedAccepted, OwnListIsAccepted}
use Rattle.judging.specs.Own.{CoarseOwnListIsAccepted}
use Rattle.judging.proofs.Accepted.{follows-accepted, accepted-follows, leaves-counts, accepted-exactly-when}
use Rattle.judging.proofs.ReadBack.{list-reads-back}
use Rattle.coarse.proofs.Promises.{from-coarse}
use Rattle.judging.proofs.Starts.{nobody, judged-good}
use Rattle.judging.proofs.Following.{Follow, run-follows}

-- ---- after a start

module _ (s : Sides) (T : ℕ) (values : List ℤ) (marks : List ℕ) (start : ℕ → Bool) (from : Startable s values start) (calls : List Call) where
  abbrev begun : State
  begun = start_state s T values (marked marks) start

  abbrev inner : ℕ → Bool
  inner = is_inside begun.dist

  abbrev es : List Entry
  es = own_list calls begun

  abbrev first : Body
  first = start_from begun.status

  own-follow : Follow s inner T first begun calls
  own-follow =
      run-follows inner all_held (found s start) calls begun (held_all inner (found s start) calls begun)
      (judged-good s values start from T (marked marks) all_held (λ j e. refl)) first
      (record { kept = refl; removed = refl; opened = refl; euler = refl })

  read_back : (entries_in (list_bytes es) ≡ es) × (AllReadable (size s) (list_bytes es))
  read_back = list-reads-back (size s) es (omega (arith, size_small s from.accepted.sides)) own-follow.below

  only-last : (a : Judgement) → (judge (list_bytes es) begun).answer ≡ done a → OpenLast s inner begun calls
  only-last a e =
      let fair = ((accepted-exactly-when (list_bytes es) begun a).0 e).0 in
      own-follow.last (accepted-follows s inner T first refl es
      (subst (λ (l : List Entry). Accepted s inner T (is_kept begun.status) l) read_back.0 fair.accepted))

  last-accepted : OpenLast s inner begun calls → OwnAccepted begun calls
  last-accepted last =
      let n = own-follow.matches in
      (accepted-exactly-when (list_bytes es) begun _).1 (
        record {
          working = append-hold (state_checks begun) (8 when false ∷ []) (state-fits begun (start-fit s values start from T (marked marks))) (refl, tt);
          readable = read_back.1;
          accepted = subst (λ (l : List Entry). Accepted s inner T (is_kept begun.status) l) (sym read_back.0)
              (follows-accepted s inner T first refl es (own-follow.follows last));
        },
        sym (
            ap (λ (l : List Entry). counts_of s (is_kept begun.status) l) read_back.0
            ∙ sym (leaves-counts s begun.status es) ∙ (λ i. record { removed = n.removed i; opened = n.opened i; euler = n.euler i })),
      )

pub accepted-opening-last : FromStart AcceptedOpeningLast
accepted-opening-last s T values marks start from calls =
    (only-last s T values marks start from calls, last-accepted s T values marks start from calls)

-- ---- where nothing is pinned

module _ (S : ℕ → Bool) (total : ℕ) where
  none-held : (marks : List ℕ) → PinNothing marks → Held S nobody total marks
  none-held marks h j e = sym (h j) ∙ e

  -- where nothing is pending no kept outside voxel passes
  quiet_none : (g : State) → Good S nobody total g → any_pending g.rec.sides g.status ≡ false → NonePasses g.rec.sides S (is_kept g.status)
  unfolding any_pending voxels
  quiet_none g good q i h k n = good.sound.inv.failing i k n refl (none_below (is_pending g.status) (size g.rec.sides) q i h)

  -- an opening that is not refused comes when nothing is pending
  opens-quiet : (c : Call) (g : State) → opens_at g c ≡ true → any_pending g.rec.sides g.status ≡ false
  unfolding refuses open_next
  opens-quiet (carve_up_to marks limit) g e = absurd (true≢false (sym e))
  opens-quiet (take_at marks i) g e = absurd (true≢false (sym e))
  opens-quiet finish_it g e = absurd (true≢false (sym e))
  opens-quiet (open_one marks) g e =
      let free = may_go (marked marks) g.dist in
      by-checks (untouched (lent_to g)) (opened free (the_voxel (to_open free g)) g)
      (λ o. not (is_refused o.answer) ≡ true → any_pending g.rec.sides g.status ≡ false)
      (open_checks marks g) (λ n f. absurd (true≢false (sym f))) (λ h f. (openable g marks h).quiet.quiet) e

  opens-last : (cs : List Call) (g : State) → AllLend PinNothing g cs → Good S nobody total g → any_pending g.rec.sides (run cs g).end.status ≡ false
      → OpenLast g.rec.sides S g cs
  unfolding run
  opens-last [] g within good q = quiet_none g good q
  opens-last (c ∷ cs) g within good q =
      let keeps = call-keeps S nobody total c g (λ r. lends-map PinNothing (Held S nobody total) none-held c (within.0 r)) good in
      let same = keeps.adds.sides in
      let h = (call c g).end in (
        λ e. quiet_none g good (opens-quiet c g e),
        subst (λ (t : Sides). OpenLast t S h cs) same
            (opens-last cs h within.1 keeps.good (subst (λ (t : Sides). any_pending t (run cs h).end.status ≡ false) (sym same) q)),
      )

pub unpinned-accepted : FromStart UnpinnedAccepted
unpinned-accepted s T values marks start from unpinned calls lent quiet =
    let begun = start_state s T values (marked marks) start in
    last-accepted s T values marks start from calls
    (opens-last (is_inside begun.dist) (found s start) calls begun lent
    (judged-good s values start from T (marked marks) nobody (λ j e. sym (unpinned j) ∙ e)) quiet)

pub own-list-exactly-when : OwnListExactlyWhen
own-list-exactly-when = from-begin AcceptedOpeningLast accepted-opening-last

pub coarse-own-list-exactly-when : CoarseOwnListExactlyWhen
coarse-own-list-exactly-when = from-coarse AcceptedOpeningLast accepted-opening-last

pub own-list-is-accepted : OwnListIsAccepted
own-list-is-accepted = from-begin UnpinnedAccepted unpinned-accepted

pub coarse-own-list-is-accepted : CoarseOwnListIsAccepted
coarse-own-list-is-accepted = from-coarse UnpinnedAccepted unpinned-accepted
