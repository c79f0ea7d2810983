-- carve: the room for its queue, and what it answers.
use mathlib.Core.Path.{◌≡◌, sym, ap, ◌∙◌}
use mathlib.Core.List.{List}
use Prim.Native.Nat.{ℕ, ◌≤◌}
use native.Mathlib.Omega.{arith}
use lib.IntN.{ℤ, pos}
use lib.ListN.{length}
use Rattle.rules.specs.declared.Sides.{Sides}
use Rattle.rules.specs.declared.Record.{Record}
use Rattle.rules.specs.Grid.{size}
use Rattle.rules.specs.Status.{any_pending, Progress}
use Rattle.rules.specs.Marks.{Marked}
use Rattle.rules.specs.Machine.{State, may_go, sooner, count, carved}
use Rattle.rules.specs.declared.Carving.{Carving}
use Rattle.rules.specs.Answer.{done, Outcome, outcome, Buffers, buffers}
use Rattle.rules.specs.Fit.{FitVoxels}
use Rattle.rules.proofs.Places.{fit}
use Rattle.rules.proofs.Rows.{size-high, row-end}
use Rattle.examining.specs.declared.Tally.{Tally}
use Rattle.examining.specs.Examining.{Lending, Tallied}
use Rattle.examining.proofs.Working.{fit-workable}

-- a fit grid has a voxel, and no more than the queue has room for
pub lending :
    (s : Sides) (dist : List ℤ) (status offsets tree front : List ℕ)
    → FitVoxels s dist status
    → length offsets ≡ 4096
    → length tree ≡ 1024
    → length front ≡ 113
    → Lending s dist status offsets tree front
lending s dist status offsets tree front f o t p =
    let l = f.lent in
    let e = fit s l.sides in
    let n = l.statuses in
    let high = size-high s e in
    let low : 1 ≤ size s = omega (arith, row-end s 0 0 (omega (arith, e.b-low)) (omega (arith, e.c-low)), e.a-low) in
    record {
      work = fit-workable s dist status f;
      room =
          record {
            index =
                record {
                  lent = record { same = l.distances ∙ sym n; some = omega arith; few = omega arith };
                  stretched = omega arith;
                  grouped = omega arith;
                };
            list = p;
          };
    }

pub carved-is :
    (m : Marked) (g : State) (limit : ℕ) (after : List ℕ) (t : Tally) (next : Record)
    → Tallied g.rec.sides m g.dist limit g.status after t
    → next ≡ count g.rec t.examined t.removed 0 (pos 0)
    → outcome (done (record { examined = t.examined; removed = t.removed; pending = t.pending; face = t.face; next = next })) (buffers g.dist after)
    ≡ carved (may_go m g.dist) (sooner m g.dist) limit g
unfolding carved
carved-is m g limit after t next r e =
    (λ j. outcome (done (record { examined = t.examined; removed = t.removed; pending = r.left j; face = t.face; next = e j })) (buffers g.dist after))
    ∙ ap told r.rule
  where
    -- what is answered of a run
    told : Progress → Outcome Buffers Carving
    told q =
        outcome
        (done (
        record {
          examined = q.examined;
          removed = q.removed;
          pending = any_pending g.rec.sides q.status;
          face = q.face;
          next = count g.rec q.examined q.removed 0 (pos 0);
        }
        ))
        (buffers g.dist q.status)
