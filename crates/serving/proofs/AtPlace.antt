-- The place that is served: what the checks give of it, and that what the code leaves in the part of the grid is what the rule puts there.
use mathlib.Core.Path.{◌≡◌, ap, ap₂, sym, ◌∙◌, subst₂}
use mathlib.Core.List.{List}
use Rattle.std.specs.Prelude.{Some}
use Prim.Native.Nat.{ℕ, ◌+◌, ◌≤◌, ◌<◌}
use native.Mathlib.Omega.{arith}
use lib.IntN.{ℤ}
use lib.ListN.{length, get_or, take}
use Rattle.rules.specs.declared.Record.{Record}
use Rattle.rules.specs.Checks.{AllHold}
use Rattle.rules.specs.declared.Carving.{Carving}
use Rattle.rules.specs.Answer.{Reply, Outcome, outcome, untouched, Buffers}
use Rattle.rules.specs.Fit.{Marking}
use Rattle.rules.specs.Marks.{marked}
use Rattle.rules.specs.Machine.{State, state, may_go, sooner, carved, carve, the_voxel}
use Rattle.rules.proofs.Checks.{unless-held}
use Rattle.rules.proofs.Fit.{marking}
use Rattle.rules.proofs.NeverUnfit.{is-carved}
use Rattle.office.specs.declared.Grids.{Grids}
use Rattle.office.specs.declared.Order.{Order}
use Rattle.office.specs.Parts.{total, part_at, put}
use Rattle.office.specs.Order.{queue, others, served_last}
use Rattle.office.specs.declared.Serving.{Serving}
use Rattle.office.specs.Serve.{Office, left, grids, no_record, grid_at, waits, to_serve, serve_checks, placed, served_at, serve}
use Rattle.office.proofs.Parts.{put_same}
use Rattle.office.proofs.Queue.{few-below, room_for, queue-fit, first-mem}
use Rattle.office.proofs.Step.{order-fits, grid-holds}
use Rattle.office.specs.Structs.{places_of, office_given, packed, Kept, kept, as_struct}
use Rattle.order_record.proofs.Places.{length-places}
use Rattle.serving_checks.specs.Given.{sizes_of, LaidOut}
use Rattle.serving_checks.proofs.Places.{length-sizes, part-ordered, part-within, part-is, put_is, part-grid}
use Rattle.part_carving.specs.Part.{part, spliced, Within}
use Rattle.choosing.proofs.Checked.{grids-are, all_laid}

module _ (marks : List ℕ) (limit : ℕ) (g : Grids) (o : Order) (dist : List ℤ) (status : List ℕ) where
  abbrev O : Office
  O = office_given g o dist status

  abbrev ns : List ℕ
  ns = sizes_of g

  -- ---- what the checks give of the place

  pub record Ready (p : ℕ) : Type 0 where
    pub holds : AllHold (serve_checks marks limit O)
    pub chosen : to_serve O ≡ Some p
    pub laid : LaidOut g dist status
    pub marks-len : length marks ≡ total ns
    pub below : p < g.count
    pub few : o.len ≤ 16
    pub room : length (others p (places_of o)) < 16
    pub own : Marking (part_at ns marks p) (grid_at O p)

  pub ready : (p : ℕ) → AllHold (serve_checks marks limit O) → to_serve O ≡ Some p → Ready p
  unfolding to_serve
  ready p h e =
      let laid = all_laid marks limit g o dist status h in
      let n = grids-are marks limit g o dist status in
      let fit = order-fits marks limit O h in
      let below = (queue-fit (grids O) (places_of o) fit).below p (first-mem (waits O) (queue (grids O) (places_of o)) p e).0 in
      record {
        holds = h;
        chosen = e;
        laid = laid.0;
        marks-len = laid.1;
        below = omega arith;
        few = omega (arith, few-below (grids O) (places_of o) fit, length-places o, laid.0.sized.few);
        room = omega (arith, room_for (grids O) p (places_of o) fit below, laid.0.sized.few);
        own = marking (grid_at O p) (part_at ns marks p) (grid-holds marks limit O h p below);
      }

  -- ---- its part of the buffers

  module _ (p : ℕ) (r : Ready p) (from to : ℕ) (start : from ≡ total (take p ns)) (end : to ≡ total (take (p + 1) ns)) (given : Record)
      (is : given ≡ get_or g.records p no_record) where
    pub within : Within from to dist status marks
    within =
        record {
          ordered = part-ordered ns p from to start end;
          in-dist = part-within ns p from to start end dist r.laid.distances;
          in-status = part-within ns p from to start end status r.laid.statuses;
          in-marks = part-within ns p from to start end marks r.marks-len;
        }

    -- the grid in its part of the buffers, with its part of the marks
    abbrev part-state : State
    part-state = state given (part dist from to) (part status from to)

    grid-is : part-state ≡ grid_at O p
    unfolding grid_at
    grid-is = part-grid g dist status r.laid p from to r.below start end given is

    marks-are : part marks from to ≡ part_at ns marks p
    marks-are = part-is ns p from to start end marks

    pub part-marking : Marking (part marks from to) part-state
    part-marking = subst₂ Marking (sym marks-are) (sym grid-is) r.own

    -- ---- the call

    -- what carve does, and what is made of it
    abbrev own-carve : Outcome Buffers Carving
    own-carve = carve (part_at ns marks p) limit (grid_at O p)

    abbrev by-rule : Outcome Buffers Carving → Outcome Kept Serving
    by-rule c =
        as_struct o (outcome (placed p c.answer) (left (served_last p (places_of o)) (put ns dist p c.lent.dist) (put ns status p c.lent.status)))

    abbrev by_code : Outcome Buffers Carving → Outcome Kept Serving
    by_code c = outcome (placed p c.answer) (kept (packed (served_last p (places_of o))) dist (put ns status p c.lent.status))

    same : by_code own-carve ≡ by-rule own-carve
    unfolding carved grid_at
    same =
        let m = marked (part_at ns marks p) in
        let d = (grid_at O p).dist in
        let worked = carved (may_go m d) (sooner m d) limit (grid_at O p) in
        let e = is-carved (part_at ns marks p) limit (grid_at O p) r.own in
        ap by_code e
        ∙ ap (λ (l : List ℤ). outcome (by_code worked).answer (kept (packed (served_last p (places_of o))) l (by_code worked).lent.status))
        (sym (put_same ns dist p r.laid.distances))
        ∙ ap by-rule (sym e)

    served : serve marks limit O ≡ served_at marks limit O p
    unfolding serve
    served =
        unless-held (untouched (left O.order O.dist O.status)) (served_at marks limit O (the_voxel (to_serve O))) (serve_checks marks limit O) r.holds
        ∙ ap (λ (q : ℕ). served_at marks limit O q) (ap the_voxel r.chosen)

    pub served-is : (answer : Reply Serving) (order : Order) (a : Reply Carving) (after : List ℕ)
        → answer ≡ placed p a → order ≡ packed (served_last p (places_of o))
        → outcome a after ≡ spliced status from to (carve (part marks from to) limit part-state)
        → outcome answer (kept order dist after) ≡ as_struct o (serve marks limit O)
    unfolding served_at
    served-is answer order a after ea eo ec =
        let c = ec ∙ ap₂ (λ (m : List ℕ) (s : State). spliced status from to (carve m limit s)) marks-are grid-is in
        let answers = ea ∙ ap (λ (r : Outcome (List ℕ) Carving). placed p r.answer) c in
        let bytes = ap (λ (r : Outcome (List ℕ) Carving). r.lent) c
        ∙ put_is ns p from to start end status own-carve.lent.status (omega (arith, r.below, length-sizes g)) r.laid.statuses in
        let made : outcome answer (kept order dist after) ≡ by_code own-carve = λ i. outcome (answers i) (kept (eo i) dist (bytes i)) in
        made ∙ same ∙ ap (as_struct o) (sym served)
