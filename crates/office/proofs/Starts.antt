-- Lists of calls on freshly begun grids, plain or coarse: each grid is one that was begun and carved alone, so demand 3 holds of it, and a call is
-- refused only where nothing is pending.
use mathlib.Core.Path.{◌≡◌, refl, ap, ap₂, sym, ◌∙◌, subst}
use mathlib.Core.Logic.{inl, inr}
use mathlib.Core.Bool.{Bool, false, not, ◌&&◌, ◌||◌}
use mathlib.Core.List.{List, [], ◌∷◌, map}
use mathlib.Core.Option.{some}
use Prim.Native.Nat.{ℕ, zero, suc, ◌<◌}
use native.Mathlib.Omega.{arith}
use lib.Dec.{leb}
use lib.IntN.{ℤ}
use lib.ListN.{length, get_or, get_elem?, take, length-map}
use borrow.Author.Tests.{eq-eqb, le-leb}
use Rattle.cells.specs.Groups.{any, filter}
use Rattle.prelude.proofs.Bools.{true-and, two}
use Rattle.prelude.proofs.Lists.{false-any}
use Rattle.prelude.proofs.Ranges.{none_below, below_none}
use Rattle.cells.proofs.Groups.{mem-none}
use Rattle.cells.proofs.GroupsAre.{mem-get_d}
use Rattle.rules.specs.declared.Sides.{Sides}
use Rattle.rules.specs.declared.Record.{Record}
use Rattle.rules.specs.Grid.{range, fit_sides, size}
use Rattle.rules.specs.Checks.{Check, ◌when◌, unless, AllHold}
use Rattle.rules.specs.Answer.{refused, Outcome, untouched}
use Rattle.rules.specs.Marks.{marked}
use Rattle.rules.specs.Machine.{State, after, lent_to, may_go, sooner, unfit, state_checks, marked_checks, the_voxel, carved, carve}
use Rattle.rules.specs.Demand.{Call, carve_up_to, call, run, Demand, DemandAfter}
use Rattle.rules.proofs.Checks.{by-checks, append-hold, unless-after}
use Rattle.rules.proofs.Fit.{fit-state}
use Rattle.rules.proofs.Demand.{FromStart, demand-after}
use Rattle.rules.proofs.NeverUnfit.{fit-after}
use Rattle.coarse.specs.Starts.{AcceptedGrid, plain, coarse, handed_by, Promised}
use Rattle.coarse.proofs.Starts.{promised, of-handed}
use Rattle.office.specs.Parts.{total, laid, part_at}
use Rattle.office.specs.Order.{unfit_order}
use Rattle.office.specs.declared.Serving.{Serving}
use Rattle.office.specs.Serve.{Office, grids, sizes, no_record, grid_at, waits, to_serve, wrong_lengths, serve_checks, Left, left}
use Rattle.office.specs.Serve.{served_at, serve, after_serve}
use Rattle.office.specs.Lists.{Request, Service, after_all, services, of_place, Start, begun, office_of, fresh}
use Rattle.office.specs.Lists.{carves_of, AsAlone, EachAsAlone, DemandOfEach, InRange, RefusedOnlyWhenQuiet}
use Rattle.office.proofs.Parts.{cut-laid, length-laid}
use Rattle.office.proofs.Queue.{FitOrder, order-fit, fit-served}
use Rattle.office.proofs.Step.{Lengths, served, by-serve}
use Rattle.office.proofs.Lists.{done_refused, alone, sums-alone}

-- ---- what every start promises, each of these does

of-begun : (P : State → Type 0) → FromStart (λ s T values marks start g. P g) → (a : Start) → P (begun a)
unfolding begun
of-begun P holds a = of-handed P holds a.by

begun-holds : (a : Start) (calls : List Call) → AllHold (state_checks (run calls (begun a)).end)
begun-holds = of-begun (λ g. (calls : List Call) → AllHold (state_checks (run calls g).end)) fit-after

-- ---- the grids of a fresh office are those that were begun

begun-at : {A : Type 0} (f : State → A) (d : A) (starts : List Start) (x : ℕ) (a : Start) → get_elem? starts x ≡ some a
    → get_or (map f (map begun starts)) x d ≡ f (begun a)
begun-at f d [] x a e = let z : ◌≡◌ {A = ℕ} 0 1 = cc in let y : ⊥ = omega arith in absurd y
begun-at f d (b ∷ starts) zero a e = ap (λ (a : Start). f (begun a)) (let q : b ≡ a = cc in q)
begun-at f d (b ∷ starts) (suc x) a e = begun-at f d starts x a e

module _ {A : Type 0} (f : State → List A) (long : (a : Start) → length (f (begun a)) ≡ size (begun a).rec.sides) where
  part-sizes : (starts : List Start) → map length (map f (map begun starts)) ≡ sizes (fresh starts)
  unfolding fresh office_of
  part-sizes [] = refl
  part-sizes (a ∷ starts) = ap₂ (λ (n : ℕ) (ns : List ℕ). n ∷ ns) (long a) (part-sizes starts)

  fresh-length : (starts : List Start) → length (laid (map f (map begun starts))) ≡ total (sizes (fresh starts))
  fresh-length starts = length-laid (map f (map begun starts)) ∙ ap total (part-sizes starts)

  fresh-part : (starts : List Start) (x : ℕ) (a : Start) → get_elem? starts x ≡ some a
      → part_at (sizes (fresh starts)) (laid (map f (map begun starts))) x ≡ f (begun a)
  fresh-part starts x a e =
      let fs = map f (map begun starts) in
      ap (λ (ns : List ℕ). part_at ns (laid fs) x) (sym (part-sizes starts))
      ∙ ap (λ (ls : List (List A)). get_or ls x []) (cut-laid fs)
      ∙ begun-at f [] starts x a e

dist-long : (a : Start) → length (begun a).dist ≡ size (begun a).rec.sides
unfolding run
dist-long a = (fit-state (begun a) (begun-holds a [])).voxels.lent.distances

status-long : (a : Start) → length (begun a).status ≡ size (begun a).rec.sides
unfolding run
status-long a = (fit-state (begun a) (begun-holds a [])).voxels.lent.statuses

fresh-grid : (starts : List Start) (x : ℕ) (a : Start) → get_elem? starts x ≡ some a → grid_at (fresh starts) x ≡ begun a
unfolding grid_at fresh office_of
fresh-grid starts x a e =
    rw (
      begun-at (λ g. g.rec) no_record starts x a e,
      fresh-part (λ g. g.dist) dist-long starts x a e,
      fresh-part (λ g. g.status) status-long starts x a e,
    )

pub each-as-alone : EachAsAlone
each-as-alone starts calls x a e =
    let o = fresh starts in
    subst (λ (g : State). AsAlone g (filter (of_place x) (services calls o)) (grid_at (after_all calls o) x)) (fresh-grid starts x a e) (alone calls o x)

-- ---- demand 3

demand-handed : (calls : List Call) {s : Sides} {values : List ℤ} (a : AcceptedGrid s values)
    → let after = run calls (handed_by a) in Promised (λ s T values marks start g. Demand s values marks start g calls after.end after.answers) a
demand-handed calls (plain T marks dist status r e) = promised DemandAfter demand-after (plain T marks dist status r e) calls
demand-handed calls (coarse T marks lent c e) = promised DemandAfter demand-after (coarse T marks lent c e) calls

pub demand-of-each : DemandOfEach
unfolding begun
demand-of-each starts calls x a e =
    let o = fresh starts in
    let own = filter (of_place x) (services calls o) in
    let r = each-as-alone starts calls x a e in
    rw (r.end, sums-alone own (begun a) r.answers) (demand-handed (carves_of own) a.by)

-- ---- what a list of calls keeps

record Kept (n : ℕ) (o : Office) : Type 0 where
  as_many : grids o ≡ n
  order : FitOrder n o.order
  lengths : Lengths o

after_kept : (n : ℕ) (calls : List Request) (o : Office) → Kept n o → Kept n (after_all calls o)
unfolding after_all after_serve
after_kept n [] o k = k
after_kept n (c ∷ calls) o k =
    after_kept n calls (after_serve o (serve c.marks c.limit o))
    (by-serve c.marks c.limit o (λ r. Kept n (after_serve o r)) (λ _. k)
    (λ a l s. record {
      as_many = s.as_many ∙ k.as_many;
      order = rw s.order (fit-served n a.place o.order k.order (omega (arith, s.below, k.as_many)));
      lengths = s.lengths;
    }))

fresh_kept : (starts : List Start) → Kept (length starts) (fresh starts)
unfolding fresh office_of
fresh_kept starts =
    record {
      as_many = length-map (map begun starts) (λ (g : State). g.rec) ∙ length-map starts begun;
      order = record { once = tt; below = λ p m. absurd (mem-none m) };
      lengths = record { dist = fresh-length (λ g. g.dist) dist-long starts; status = fresh-length (λ g. g.status) status-long starts };
    }

-- carve leaves an unfinished grid unfinished
still-unfinished : (own : List Service) (g : State) → g.rec.finished ≡ false → (run (carves_of own) g).end.rec.finished ≡ false
unfolding run call carve carved
still-unfinished [] g e = e
still-unfinished (c ∷ own) g e =
    let m = marked c.marks in
    still-unfinished own (call (carve_up_to c.marks c.limit) g).end
    (by-checks (untouched (lent_to g)) (carved (may_go m g.dist) (sooner m g.dist) c.limit g) (λ r. (after (λ n. n.next) g r).rec.finished ≡ false)
    (marked_checks c.marks g) (λ n. e) (λ h. e))

-- ---- a call in range is refused only where nothing is pending

start-at : (starts : List Start) (x : ℕ) → x < length starts → (a : Start) × (get_elem? starts x ≡ some a)
start-at [] x h = let z : ⊥ = omega arith in absurd z
start-at (a ∷ starts) zero h = (a, refl)
start-at (a ∷ starts) (suc x) h = start-at starts x (omega arith)

at_none : {A : Type 0} (p : A → Bool) (d : A) (xs : List A) → ((i : ℕ) → i < length xs → p (get_or xs i d) ≡ false) → any p xs ≡ false
at_none p d xs h = false-any p xs (λ x m. let k = mem-get_d d x xs m in ap p (sym k.2) ∙ h k.0 k.1)

module _ (starts : List Start) (before : List Request) (c : Request) (r : InRange (after_all before (fresh starts)) c) where
  abbrev o : Office
  o = after_all before (fresh starts)

  kept : Kept (length starts) o
  kept = after_kept (length starts) before (fresh starts) (fresh_kept starts)

  -- each grid is a begun one after some carve calls
  module _ (x : ℕ) (h : x < grids o) where
    own : List Service
    own = filter (of_place x) (services before (fresh starts))

    grid-is : (a : Start) × (grid_at o x ≡ (run (carves_of own) (begun a)).end)
    unfolding own
    grid-is = let a = start-at starts x (omega (arith, kept.as_many)) in (a.0, (each-as-alone starts before x a.0 a.1).end)

    grid-fit : AllHold (state_checks (grid_at o x))
    grid-fit = rw grid-is.1 (begun-holds grid-is.0 (carves_of own))

    grid-unfinished : (grid_at o x).rec.finished ≡ false
    grid-unfinished =
        rw grid-is.1
        (still-unfinished own (begun grid-is.0) (of-begun (λ g. g.rec.finished ≡ false) (λ s T values marks start from. refl) grid-is.0))

  others-hold : AllHold (take 6 (serve_checks c.marks c.limit o))
  unfolding grid_at wrong_lengths
  others-hold = (
    ap not (ap₂ ◌&&◌ (true-and (leb 1 c.limit) (leb c.limit 1000) (le-leb 1 c.limit r.low) (le-leb c.limit 1000 r.high))
        (true-and (leb 1 (grids o)) (leb (grids o) 16) (le-leb 1 (grids o) r.some-grid) (le-leb (grids o) 16 r.few-grids))),
    (
      at_none (λ (r : Record). not (fit_sides r.sides)) no_record o.records (λ i h. (grid-fit i h).0),
      (
        rw (eq-eqb _ _ kept.lengths.dist, eq-eqb _ _ kept.lengths.status, eq-eqb _ _ r.long),
        (
          ap₂ ◌||◌ (below_none (λ p. unfit (grid_at o p)) (grids o) (λ i h. (grid-fit i h).1.1.0))
              (subst (λ (n : ℕ). unfit_order n o.order ≡ false) (sym kept.as_many) (order-fit (length starts) o.order kept.order)),
          (r.known, (at_none (λ (r : Record). r.finished) no_record o.records grid-unfinished, tt)),
        ),
      ),
    ),
  )

  by-quiet : (n : ℕ) → (serve c.marks c.limit o).answer ≡ refused n → (n ≡ 35) × ((x : ℕ) → x < grids o → waits o x ≡ false)
  unfolding serve unless
  by-quiet n e =
      let refuse = untouched (left o.order o.dist o.status) in
      let work = served_at c.marks c.limit o (the_voxel (to_serve o)) in
      let quiet : Check = 35 when not (any (waits o) (range 0 (grids o))) in
      let cs = take 6 (serve_checks c.marks c.limit o) in
      let f = ap (λ (r : Outcome Left Serving). r.answer) (sym (unless-after refuse work cs (quiet ∷ []) others-hold)) ∙ e in
      elim (two (any (waits o) (range 0 (grids o)))) [
        | inl t ↦
            let s = served c.marks c.limit o (append-hold cs (quiet ∷ []) others-hold (ap not t, tt)) in
            done_refused s.answer n (sym (ap (λ (r : Outcome Left Serving). r.answer) s.is) ∙ (rw t at f))
        | inr t ↦ ((let q : refused 35 ≡ refused n = (rw t at f) in cc), none_below (waits o) (grids o) t)
      ]

pub refused-only-when-quiet : RefusedOnlyWhenQuiet
refused-only-when-quiet = by-quiet
