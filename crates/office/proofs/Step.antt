-- One call of serve: what its checks give of the grid at each place, which place is chosen, and what a call that is not refused does to each grid.
use mathlib.Core.Path.{◌≡◌, refl, ap, ap₂, sym, ◌∙◌, subst}
use mathlib.Core.Logic.{◌≢◌}
use mathlib.Core.Bool.{Bool, false, not, ◌&&◌, ◌||◌}
use mathlib.Core.List.{List}
use Rattle.std.specs.Prelude.{Option, None, Some}
use Prim.Native.Nat.{ℕ, ◌<◌}
use native.Mathlib.Omega.{arith}
use lib.Dec.{eqb}
use lib.ListN.{length, set, length-set, length-map, get_or-map}
use lib.Seq.{get_or-set_same, get_or-set_other, map-set_same}
use borrow.Author.Tests.{eqb-true, eq-eqb}
use Rattle.cells.specs.Groups.{any}
use Rattle.prelude.proofs.Bools.{and-true, or-false, not-false, not-both}
use Rattle.prelude.proofs.Lists.{none-at}
use Rattle.prelude.proofs.Ranges.{none_below, any_below}
use Rattle.rules.specs.declared.Record.{Record}
use Rattle.rules.specs.Grid.{range, fit_sides, size}
use Rattle.rules.specs.Checks.{AllHold}
use Rattle.rules.specs.declared.Carving.{Carving}
use Rattle.rules.specs.Answer.{done, Outcome, outcome, untouched, Buffers, buffers}
use Rattle.rules.specs.Marks.{marked, stray_mark, wrong_marks}
use Rattle.rules.specs.Machine.{State, may_go, sooner, unfit, wrong_length, marked_checks, the_voxel, carved, carve}
use Rattle.rules.specs.Fit.{Marking}
use Rattle.rules.specs.Demand.{carve_up_to, call}
use Rattle.rules.proofs.Checks.{by-checks, fails_at, held_at}
use Rattle.rules.proofs.Foremost.{sooner-order}
use Rattle.rules.proofs.Fit.{marking}
use Rattle.rules.proofs.FitKept.{inside-stays, fit-carving}
use Rattle.rules.proofs.NeverUnfit.{is-carved}
use Rattle.office.specs.Parts.{total, part_at, put}
use Rattle.office.specs.Order.{unfit_order, queue, served_last}
use Rattle.office.specs.Serve.{Office, office, grids, sizes, no_record, grid_at, waits, to_serve, wrong_lengths, serve_checks}
use Rattle.office.specs.declared.Serving.{Serving}
use Rattle.office.specs.Serve.{Left, left, served_at, serve, after_serve}
use Rattle.office.proofs.Parts.{length-put, part-put, part-put-other, put_same, part_length, none-in-part}
use Rattle.office.proofs.Queue.{FitOrder, fit-order, in-queue, queue-fit, first-mem, none-waits}

-- ---- what the checks give

pub record Lengths (o : Office) : Type 0 where
  pub dist : length o.dist ≡ total (sizes o)
  pub status : length o.status ≡ total (sizes o)

-- a part is as long as its grid has voxels
pub part-size : {A : Type 0} (o : Office) (l : List A) → length l ≡ total (sizes o) → (p : ℕ)
    → length (part_at (sizes o) l p) ≡ size (grid_at o p).rec.sides
unfolding size grid_at
part-size o l e p = part_length (sizes o) l e p ∙ get_or-map (λ (r : Record). size r.sides) o.records p no_record

module _ (marks : List ℕ) (limit : ℕ) (o : Office) (h : AllHold (serve_checks marks limit o)) where
  held : (n : ℕ) → fails_at n (serve_checks marks limit o) ≡ false
  held = held_at (serve_checks marks limit o) h

  right-lengths : (Lengths o) × (length marks ≡ total (sizes o))
  unfolding wrong_lengths
  right-lengths =
      let n = total (sizes o) in
      let d = and-true (eqb (length o.dist) n) _ (not-false _ (held 2)) in
      let s = and-true (eqb (length o.status) n) (eqb (length marks) n) d.1 in
      (record { dist = eqb-true _ n d.0; status = eqb-true _ n s.0 }, eqb-true _ n s.1)

  unfit-none : (any (λ p. unfit (grid_at o p)) (range 0 (grids o)) ≡ false) × (unfit_order (grids o) o.order ≡ false)
  unfit-none = or-false (any (λ p. unfit (grid_at o p)) (range 0 (grids o))) (unfit_order (grids o) o.order) (held 7)

  pub order-fits : FitOrder (grids o) o.order
  order-fits = fit-order (grids o) o.order unfit-none.1

  -- carve's checks hold of each grid, with its part of the marks
  pub grid-holds : (p : ℕ) → p < grids o → AllHold (marked_checks (part_at (sizes o) marks p) (grid_at o p))
  unfolding grid_at wrong_length wrong_marks stray_mark
  grid-holds p below =
      let l = right-lengths in
      let d = part-size o o.dist l.0.dist p in
      let s = part-size o o.status l.0.status p in (
        none-at (λ (r : Record). not (fit_sides r.sides)) no_record o.records (held 1) p below,
        (
          ap₂ ◌||◌ (ap₂ (λ (t u : Bool). not (t && u)) (eq-eqb _ _ d) (eq-eqb _ _ s)) (ap not (eq-eqb _ _ (part-size o marks l.1 p))),
          (
            none_below (λ p. unfit (grid_at o p)) (grids o) unfit-none.0 p below,
            (
              none-in-part _ (sizes o) marks (held 29) p,
              (none-at (λ (r : Record). r.finished) no_record o.records (held 8) p below, tt),
            ),
          ),
        ),
      )

  -- some place is chosen, and it is a grid's
  chosen : (p : ℕ) × (to_serve o ≡ Some p) × (p < grids o)
  unfolding to_serve
  chosen = go (to_serve o) refl
    where
      q : List ℕ
      q = queue (grids o) o.order

      go : (found : Option ℕ) → to_serve o ≡ found → (p : ℕ) × (to_serve o ≡ Some p) × (p < grids o)
      go (Some p) e = (p, e, (queue-fit (grids o) o.order order-fits).below p (first-mem (waits o) q p e).0)
      go None e =
          let x = any_below (waits o) (grids o) (not-false _ (held 35)) in
          not-both (waits o x.0) x.2 (none-waits (waits o) q e x.0 (in-queue (grids o) o.order x.0 x.1))

-- ---- a carve that is not refused keeps the distances, the sides and the length

record Carves (marks : List ℕ) (limit : ℕ) (g : State) : Type 0 where
  answer : Carving
  status : List ℕ
  is : carve marks limit g ≡ outcome (done answer) (buffers g.dist status)
  same-sides : answer.next.sides ≡ g.rec.sides
  same_length : length status ≡ length g.status

carves : (marks : List ℕ) (limit : ℕ) (g : State) → Marking marks g → Carves marks limit g
unfolding carved
carves marks limit g w =
    let m = marked marks in
    let fit = w.working.fit.voxels in
    record {
      answer = _;
      status = _;
      is = is-carved marks limit g w;
      same-sides = refl;
      same_length =
          (fit-carving g.rec.sides g.dist (may_go m g.dist) (inside-stays m g.dist) (sooner m g.dist) (sooner-order m g.dist) limit
          g.status fit).lent.statuses ∙ sym fit.lent.statuses;
    }

-- ---- an office after the grid at a place was carved

module _ (o : Office) (lens : Lengths o) (p : ℕ) (below : p < grids o) (marks : List ℕ) (limit : ℕ) (c : Carves marks limit (grid_at o p)) where
  abbrev records : List Record
  records = set o.records p c.answer.next

  abbrev after : Office
  after = office records (served_last p o.order) o.dist (put (sizes o) o.status p c.status)

  same-sizes : sizes after ≡ sizes o
  unfolding grid_at
  same-sizes = map-set_same (λ (r : Record). size r.sides) o.records p c.answer.next no_record (ap size c.same-sides)

  lengths-after : Lengths after
  unfolding grid_at
  lengths-after =
      record {
        dist = lens.dist ∙ ap total (sym same-sizes);
        status = length-put (sizes o) o.status p c.status lens.status c.same_length ∙ ap total (sym same-sizes);
      }

  own-after : grid_at after p ≡ (call (carve_up_to marks limit) (grid_at o p)).end
  unfolding grid_at call
  own-after =
      rw (
        c.is,
        same-sizes,
        get_or-set_same o.records p c.answer.next no_record below,
        part-put (sizes o) o.status p c.status lens.status c.same_length
            (omega (arith, length-map o.records (λ (r : Record). size r.sides))),
      )

  other_after : (q : ℕ) → q ≢ p → grid_at after q ≡ grid_at o q
  unfolding grid_at
  other_after q d =
      rw (
        same-sizes,
        get_or-set_other o.records p q c.answer.next no_record d,
        part-put-other (sizes o) o.status p c.status lens.status c.same_length q d,
      )

  same-dist : put (sizes o) o.dist p (grid_at o p).dist ≡ o.dist
  unfolding grid_at
  same-dist = put_same (sizes o) o.dist p lens.dist

-- ---- a call that is not refused: the grid served is carved with its part of the marks, and every other is as it was

pub record Serves (marks : List ℕ) (limit : ℕ) (o : Office) (a : Serving) (next : Office) : Type 0 where
  pub fit : FitOrder (grids o) o.order
  pub chosen : to_serve o ≡ Some a.place
  pub below : a.place < grids o
  pub answered : (carve (part_at (sizes o) marks a.place) limit (grid_at o a.place)).answer ≡ done a.carving
  pub order : next.order ≡ served_last a.place o.order
  pub as_many : grids next ≡ grids o
  pub lengths : Lengths next
  pub own : grid_at next a.place ≡ (call (carve_up_to (part_at (sizes o) marks a.place) limit) (grid_at o a.place)).end
  pub elsewhere : (q : ℕ) → q ≢ a.place → grid_at next q ≡ grid_at o q

module _ (marks : List ℕ) (limit : ℕ) (o : Office) where
  pub record Answered (r : Outcome Left Serving) : Type 0 where
    pub answer : Serving
    pub lent : Left
    pub is : r ≡ outcome (done answer) lent
    pub serves : Serves marks limit o answer (after_serve o (outcome (done answer) lent))

  pub served : AllHold (serve_checks marks limit o) → Answered (served_at marks limit o (the_voxel (to_serve o)))
  unfolding served_at after_serve
  served h = go (chosen marks limit o h)
    where
      go : (p : ℕ) × (to_serve o ≡ Some p) × (p < grids o) → Answered (served_at marks limit o (the_voxel (to_serve o)))
      go (p, e, below) =
          let own = part_at (sizes o) marks p in
          let c = carves own limit (grid_at o p) (marking (grid_at o p) own (grid-holds marks limit o h p below)) in
          let lens = (right-lengths marks limit o h).0 in
          record {
            answer = record { place = p; carving = c.answer };
            lent = left (served_last p o.order) o.dist (put (sizes o) o.status p c.status);
            is = rw (e, c.is, same-dist o lens p below own limit c);
            serves = record {
              fit = order-fits marks limit o h;
              chosen = e;
              below = below;
              answered = ap (λ (r : Outcome Buffers Carving). r.answer) c.is;
              order = refl;
              as_many = length-set o.records p c.answer.next;
              lengths = lengths-after o lens p below own limit c;
              own = own-after o lens p below own limit c;
              elsewhere = other_after o lens p below own limit c;
            };
          }

  -- a call is refused, and all is as it was given, or it serves
  pub by-serve : (P : Outcome Left Serving → Type 0) → ((n : ℕ) → P (untouched (left o.order o.dist o.status) n))
      → ((a : Serving) (l : Left) → let r = outcome (done a) l in Serves marks limit o a (after_serve o r) → P r) → P (serve marks limit o)
  unfolding serve
  by-serve P refusing serving =
      by-checks (untouched (left o.order o.dist o.status)) (served_at marks limit o (the_voxel (to_serve o))) P (serve_checks marks limit o) refusing
      (λ h. let s = served h in subst P (sym s.is) (serving s.answer s.lent s.serves))
