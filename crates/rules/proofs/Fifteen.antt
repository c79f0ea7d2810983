-- Where open answers 15, what is kept is determined by S and the pinned voxels of the body at the start.
use mathlib.Core.Path.{◌≡◌, refl, ap, sym, ◌∙◌, subst}
use mathlib.Core.Logic.{inl, inr}
use mathlib.Core.Bool.{Bool, true, false, not, cond, ◌&&◌, ◌||◌}
use mathlib.Core.List.{List, [], ◌∷◌, ◌++◌}
use Rattle.std.specs.Prelude.{Option, None, Some}
use Prim.Native.Nat.{ℕ, ◌<◌}
use native.Mathlib.Omega.{arith}
use lib.Dec.{ltb, eqb}
use lib.IntN.{ℤ}
use borrow.Author.Tests.{ltb-true, eqb-false, ne_eqb}
use Rattle.cells.specs.Groups.{any}
use Rattle.cells.specs.Linked.{OnePiece}
use Rattle.cells.proofs.Chains.{widen}
use Rattle.prelude.proofs.Bools.{and-true, or-true, or-zero, or-false, not-both, two}
use Rattle.rules.specs.declared.Sides.{Sides}
use Rattle.rules.specs.Grid.{fit_sides, size, touch}
use Rattle.rules.specs.Checks.{Check, ◌when◌, unless, AllHold}
use Rattle.rules.specs.declared.Opening.{Opening}
use Rattle.rules.specs.Answer.{refused, done, Outcome, outcome, untouched, Buffers}
use Rattle.rules.specs.Begin.{is_in, inside}
use Rattle.rules.specs.Status.{is_kept, any_pending}
use Rattle.rules.specs.Marks.{marked}
use Rattle.rules.specs.Machine.{State, lent_to, may_go, marked_checks, quiet_checks, to_open, is_none, the_voxel, opened, open_next}
use Rattle.rules.specs.Fit.{Marking}
use Rattle.rules.specs.Demand.{FromBegin, Call, run}
use Rattle.rules.specs.Meaning.{found}
use Rattle.rules.specs.Fifteen.{clear, OpenToBorder, walls, UnpinnedWalls, Pins, OpenAfter, GoneIsOpen, OnlyClosedIn, NoneToOpenAfter, NoneToOpen}
use Rattle.rules.specs.Fifteen.{FifteenTellsAfter, FifteenTells, FifteenWhenAfter, FifteenWhen, FifteenLastAfter, FifteenIsLast, end_status}
use Rattle.rules.specs.Fifteen.{SameBodyAfter, OneBody}
use Rattle.rules.proofs.Inside.{inside-one-piece}
use Rattle.rules.proofs.Checks.{unless-after, hold-append, held_at}
use Rattle.rules.proofs.Fit.{marking, marking-holds}
use Rattle.rules.proofs.Topology.Calls.{Good}
use Rattle.rules.proofs.Topology.Start.{kept-at-first}
use Rattle.rules.proofs.Demand.{all_held, Startable, start_state, FromStart, keeps-after, from-begin}
use Rattle.rules.proofs.Pinned.{gone-stays-gone}
use Rattle.rules.proofs.NeverUnfit.{end-fit}
use Rattle.rules.proofs.Border.{gone-open, open_gone, one_piece, may-go, pinned-stays, first-fails, stays}

-- ---- after a start, and any list of calls

module _ (s : Sides) (T : ℕ) (values : List ℤ) (marks : List ℕ) (start : ℕ → Bool) (from : Startable s values start) (calls : List Call) where
  abbrev S : List ℕ
  S = inside s values

  abbrev total : ℕ
  total = found s start

  abbrev begun : State
  begun = start_state s T values (marked marks) start

  abbrev reached : State
  reached = (run calls begun).end

  good-end : Good (is_in S) all_held total reached
  good-end = (keeps-after s values start from T (marked marks) calls).good

  same-sides : reached.rec.sides ≡ s
  same-sides = (keeps-after s values start from T (marked marks) calls).adds.sides

  fit-end : fit_sides reached.rec.sides ≡ true
  fit-end = ap fit_sides same-sides ∙ from.accepted.sides

  gone-end : (solid : ℕ → Bool) → ((j : ℕ) → j < size s → solid j ≡ true → is_kept reached.status j ≡ true)
      → (i : ℕ) → i < size s → is_kept reached.status i ≡ false → OpenToBorder s solid i
  gone-end solid =
      subst (λ (t : Sides). ((j : ℕ) → j < size t → solid j ≡ true → is_kept reached.status j ≡ true)
      → (i : ℕ) → i < size t → is_kept reached.status i ≡ false → OpenToBorder t solid i) same-sides
      (gone-open (is_in S) all_held total reached good-end fit-end solid)

  inside-end : (j : ℕ) → is_in S j ≡ true → is_kept reached.status j ≡ true
  inside-end = good-end.sound.inv.inside

  -- what is kept is of the body at the start: what is not there is gone from the start
  of-start : (v : ℕ) → is_kept reached.status v ≡ true → start v ≡ true
  of-start v k =
      let below : v < size s = subst (λ (t : Sides). v < size t) same-sides (good-end.sound.inv.shape.inner v k).0 in
      elim (two (start v)) [
        | inl b ↦ b
        | inr b ↦
            not-both (is_kept reached.status v) k (gone-stays-gone begun v (kept-at-first s (marked marks) S start v below ∙ b) calls)
      ]

  module _ (lent : List ℕ) (pins : Pins lent begun calls) (working : reached.rec.finished ≡ false)
      (none_left : to_open (may_go (marked lent) reached.dist) reached ≡ None) where
    abbrev pinned : ℕ → Bool
    pinned = (marked lent).pinned

    abbrev free : ℕ → Bool
    free = may_go (marked lent) reached.dist

    walls-kept : (j : ℕ) → j < size s → walls S lent start j ≡ true → is_kept reached.status j ≡ true
    unfolding walls
    walls-kept j h e =
        elim (or-true (is_in S j) (pinned j && start j) e) [
          | inl m ↦ inside-end j m
          | inr m ↦
              let p = and-true (pinned j) (start j) m in
              pinned-stays lent begun calls pins j p.0 (kept-at-first s (marked marks) S start j h ∙ p.1)
        ]

    free-end : (v : ℕ) → is_kept reached.status v ≡ true → is_in S v ≡ false → pinned v ≡ false → free v ≡ true
    free-end = may-go (is_in S) all_held total reached good-end fit-end lent working

    past-walls : (v : ℕ) → is_kept reached.status v ≡ true → walls S lent start v ≡ false → free v ≡ true
    unfolding walls
    past-walls v k e =
        let o = or-false (is_in S v) (pinned v && start v) e in free-end v k o.0 (first-fails (pinned v) (start v) (of-start v k) o.1)

    only-closed-in : OnlyClosedIn s S lent start reached.status
    only-closed-in =
        record {
          gone-is-open = λ i h. (
            gone-end (walls S lent start) walls-kept i h,
            subst (λ (t : Sides). OpenToBorder t (walls S lent start) i → is_kept reached.status i ≡ false) same-sides
                (open_gone (is_in S) all_held total reached good-end fit-end free (walls S lent start) none_left past-walls i),
          );
          body-one-piece = λ unpinned.
              subst (λ (t : Sides). OnePiece (is_in S) (touch t) → OnePiece (is_kept reached.status) (touch t)) same-sides
              (one_piece (is_in S) all_held total reached good-end fit-end free (is_in S) none_left (λ v k m. free-end v k m (unpinned v k m)) inside-end)
              (inside-one-piece s values from.accepted.some from.accepted.some-negative);
        }

pub unpinned-walls : UnpinnedWalls
unfolding walls
unpinned-walls S marks start i e = ap (λ (t : Bool). is_in S i || (t && start i)) e ∙ or-zero (is_in S i)

pub open_after : FromStart OpenAfter
open_after s T values marks start from calls =
    gone-end s T values marks start from calls (is_in (inside s values)) (λ j h m. inside-end s T values marks start from calls j m)

pub gone-is-open : GoneIsOpen
gone-is-open = from-begin OpenAfter open_after

pub none-to-open-after : FromStart NoneToOpenAfter
none-to-open-after s T values marks start from calls = only-closed-in s T values marks start from calls

pub none-to-open : NoneToOpen
none-to-open = from-begin NoneToOpenAfter none-to-open-after

-- ---- the number

-- the last number of a list of checks, which no check before it has, says that those hold
module _ {L A : Type 0} (lent : L) (a : A) (after : L) where
  refused-last : (cs : List Check) (n : ℕ) (t : Bool) → any (λ c. eqb c.number n) cs ≡ false
      → (unless (cs ++ (n when t ∷ [])) (untouched lent) (outcome (done a) after)).answer ≡ refused n → (AllHold cs) × (t ≡ true)
  unfolding any unless
  refused-last [] n true u e = (tt, refl)
  refused-last [] n false u e = let z : ◌≡◌ {A = ℕ} 0 1 = cc in let y : ⊥ = omega arith in absurd y
  refused-last (c ∷ cs) n t u e =
      let o = or-false (eqb c.number n) (any (λ c. eqb c.number n) cs) u in
      go c.fails refl o.0 (unless (cs ++ (n when t ∷ [])) (untouched lent) (outcome (done a) after)) e (refused-last cs n t o.1)
    where
      go : (b : Bool) → c.fails ≡ b → eqb c.number n ≡ false → (rest : Outcome L A) → (cond b (untouched lent c.number) rest).answer ≡ refused n
          → (rest.answer ≡ refused n → (AllHold cs) × (t ≡ true)) → ((c.fails ≡ false) × (AllHold cs)) × (t ≡ true)
      go true f d rest e ih = let z : c.number ≡ n = cc in absurd (eqb-false c.number n d z)
      go false f d rest e ih = let h = ih e in ((f, h.0), h.1)

module _ (lent : List ℕ) (g : State) where
  abbrev used-up : Bool
  used-up = eqb g.rec.openings g.rec.allowed

  abbrev choice : Option ℕ
  choice = to_open (may_go (marked lent) g.dist) g

  -- what 15 says of its call
  record Fifteen : Type 0 where
    marking : Marking lent g
    quiet : any_pending g.rec.sides g.status ≡ false
    left : used-up ≡ false
    none_left : choice ≡ None

  fifteen-none : (open_next lent g).answer ≡ refused 15 → Fifteen
  unfolding open_next opened any
  fifteen-none e =
      let after = quiet_checks g ++ (14 when used-up ∷ []) in
      let r = refused-last (lent_to g) _ _ (marked_checks lent g ++ after) 15 (is_none choice) refl e in
      let held = held_at (marked_checks lent g ++ after) r.0 in
      record {
        marking = marking g lent (hold-append (marked_checks lent g) after r.0).0;
        quiet = held 13;
        left = held 14;
        none_left = is-none choice r.1;
      }
    where
      is-none : (o : Option ℕ) → is_none o ≡ true → o ≡ None
      is-none None e = refl
      is-none (Some i) e = not-both false e refl

  none-fifteen : Fifteen → (open_next lent g).answer ≡ refused 15
  unfolding open_next unless
  none-fifteen t =
      let work = opened (may_go (marked lent) g.dist) (the_voxel choice) g in
      let rest : Bool → Bool → Bool → List Check = λ a b c. 13 when a ∷ 14 when b ∷ 15 when c ∷ [] in
      ap (λ (o : Outcome Buffers Opening). o.answer)
      (unless-after (untouched (lent_to g)) work (marked_checks lent g) (rest (any_pending g.rec.sides g.status) used-up (is_none choice))
      (marking-holds lent g t.marking)
      ∙ λ i. unless (rest (t.quiet i) (t.left i) (is_none (t.none_left i))) (untouched (lent_to g)) work)

pub fifteen-tells-after : FromStart FifteenTellsAfter
fifteen-tells-after s T values marks start from calls lent pins q =
    let t = fifteen-none lent (run calls (start_state s T values (marked marks) start)).end q in
    only-closed-in s T values marks start from calls lent pins t.marking.working.unfinished t.none_left

pub fifteen-tells : FifteenTells
fifteen-tells = from-begin FifteenTellsAfter fifteen-tells-after

pub fifteen-when-after : FromStart FifteenWhenAfter
fifteen-when-after s T values marks start from calls lent =
    let m = marked marks in
    let g = (run calls (start_state s T values m start)).end in
    let adds = (keeps-after s values start from T m calls).adds in
    let fits = end-fit s values start from T m calls in
    let few = fits.openings in
    let same : any_pending g.rec.sides g.status ≡ any_pending s g.status = ap (λ (t : Sides). any_pending t g.status) adds.sides in
    let allowed : g.rec.allowed ≡ T = adds.allowed in (
      λ q. let t = fifteen-none lent g q in (
        t.marking.lent ∙ ap size adds.sides,
        t.marking.known,
        t.marking.working.unfinished,
        sym same ∙ t.quiet,
        omega (arith, eqb-false g.rec.openings g.rec.allowed t.left),
        t.none_left,
      ),
      λ p. none-fifteen lent g (record {
        marking = record { working = record { fit = fits; unfinished = p.2 }; lent = p.0 ∙ ap size (sym adds.sides); known = p.1 };
        quiet = same ∙ p.3;
        left = ne_eqb g.rec.openings g.rec.allowed (λ z. omega (arith, p.4));
        none_left = p.5;
      }),
    )

pub fifteen-when : FifteenWhen
fifteen-when = from-begin FifteenWhenAfter fifteen-when-after

pub fifteen-last-after : FromStart FifteenLastAfter
fifteen-last-after s T values marks start from calls lent more q pins =
    let reached = (run calls (start_state s T values (marked marks) start)).end in
    let t = fifteen-none lent reached q in
    stays (is_in (inside s values)) (found s start) reached (good-end s T values marks start from calls) (fit-end s T values marks start from calls)
    t.marking.working.unfinished lent t.none_left more pins

pub fifteen-is-last : FifteenIsLast
fifteen-is-last = from-begin FifteenLastAfter fifteen-last-after

-- ---- two lists that end with 15

module _ (s : Sides) (S marks S' marks' status status' : List ℕ) (start start' : ℕ → Bool)
    (closed : OnlyClosedIn s S marks start status) (closed' : OnlyClosedIn s S' marks' start' status')
    (same : (i : ℕ) → i < size s → walls S marks start i ≡ walls S' marks' start' i) where
  same-clear : (j : ℕ) → clear s (walls S marks start) j ≡ clear s (walls S' marks' start') j
  same-clear j =
      elim (two (ltb j (size s))) [
        | inl l ↦ ap (λ (t : Bool). ltb j (size s) && not t) (same j (ltb-true j (size s) l))
        | inr l ↦ rw l
      ]

  pub same_kept : (i : ℕ) → i < size s → is_kept status i ≡ is_kept status' i
  same_kept i h =
      go (is_kept status i) (is_kept status' i)
      (λ k. let o = (closed.gone-is-open i h).0 k in (closed'.gone-is-open i h).1 (o.0, o.1, widen (λ j c. sym (same-clear j) ∙ c) o.2))
      (λ k. let o = (closed'.gone-is-open i h).0 k in (closed.gone-is-open i h).1 (o.0, o.1, widen (λ j c. same-clear j ∙ c) o.2))
    where
      go : (p q : Bool) → (p ≡ false → q ≡ false) → (q ≡ false → p ≡ false) → p ≡ q
      go true true f g = refl
      go true false f g = g refl
      go false q f g = sym (f refl)

pub same-body-after : FromStart (λ s T values marks start begun. FromStart (SameBodyAfter s values start begun))
same-body-after s T values marks start from s' T' values' marks' start' from' sides e f =
    let S' = inside s' values' in
    same_kept s (inside s values) e.lent S' f.lent (end_status e) (end_status f) start start'
    (fifteen-tells-after s T values marks start from e.calls e.lent e.pins e.ends)
    (subst (λ (t : Sides). OnlyClosedIn t S' f.lent start' (end_status f)) sides
    (fifteen-tells-after s' T' values' marks' start' from' f.calls f.lent f.pins f.ends))

pub one-body : OneBody
one-body =
    from-begin (λ s T values marks start begun. FromBegin (SameBodyAfter s values start begun)) (λ s T values marks start from.
    from-begin (SameBodyAfter s values start (start_state s T values (marked marks) start)) (same-body-after s T values marks start from))
