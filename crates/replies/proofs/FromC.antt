-- A record that goes out to C comes back, so that a list of calls from C leaves what the list leaves by the rules.
use mathlib.Core.Path.{◌≡◌, refl, ap, sym, ◌∙◌, subst}
use mathlib.Core.Bool.{Bool, true, false, not}
use mathlib.Core.List.{List, [], ◌∷◌}
use Prim.Native.Nat.{ℕ, zero, suc, ◌≤◌}
use native.Mathlib.Omega.{arith}
use lib.Dec.{eqb}
use lib.IntN.{ℤ}
use Rattle.cells.specs.Cells.{bit}
use Rattle.rules.specs.declared.Sides.{Sides}
use Rattle.rules.specs.declared.Record.{Record}
use Rattle.rules.specs.Fill.{filled}
use Rattle.rules.specs.declared.Carving.{Carving}
use Rattle.rules.specs.declared.Opening.{Opening}
use Rattle.rules.specs.Answer.{Reply, refused, done, Buffers, Removal}
use Rattle.rules.specs.Begin.{inside, in_box, begin}
use Rattle.rules.specs.Machine.{State, state, record_after, carve, take, open_next, finish}
use Rattle.rules.specs.Demand.{Call, carve_up_to, take_at, open_one, finish_it, call, run, Demand}
use Rattle.rules.proofs.Demand.{demand-is-met}
use Rattle.coarse.specs.Blocks.{split_body}
use Rattle.coarse.specs.declared.CoarseStart.{CoarseStart}
use Rattle.coarse.specs.Coarse.{begin_coarse}
use Rattle.coarse.specs.Promises.{coarse_state}
use Rattle.coarse.proofs.Promises.{coarse-demand-is-met}
use Rattle.replies.specs.declared.CRecord.{CRecord}
use Rattle.replies.specs.Structs.{record_in, begin_struct, begin_coarse_struct, carve_struct, take_struct, open_struct, finish_struct}
use Rattle.replies.specs.FromC.{RecordComesBack, ByteComesBack, Held, held, state_in, call_from_c, run_from_c, ListsAgree}
use Rattle.replies.specs.FromC.{DemandAfterC, DemandFromC, CoarseDemandFromC}

-- ---- the record

pub record-comes-back : RecordComesBack
record-comes-back r = λ i.
    record {
      sides = r.sides;
      allowed = r.allowed;
      openings = r.openings;
      removals = r.removals;
      examinations = r.examinations;
      euler = r.euler;
      finished = as_it_was r.finished i;
    }
  where
    as_it_was : (t : Bool) → not (eqb (bit t) 0) ≡ t
    as_it_was true = refl
    as_it_was false = refl

pub byte-comes-back : ByteComesBack
byte-comes-back c h = λ i.
    record {
      sides = c.sides;
      allowed = c.allowed;
      openings = c.openings;
      removals = c.removals;
      examinations = c.examinations;
      euler = c.euler;
      finished = as_it_was c.finished h i;
    }
  where
    as_it_was : (x : ℕ) → x ≤ 1 → bit (not (eqb x 0)) ≡ x
    as_it_was zero h = refl
    as_it_was (suc zero) h = refl
    as_it_was (suc (suc x)) h = omega arith

-- ---- one call, by the record that its struct has

-- whatever a call answers, given to the next call it is the record that the rules go on with
carve-next : (c : CRecord) (a : Reply Carving) → record_in (carve_struct c a).next ≡ record_after (λ r. r.next) (record_in c) a
carve-next c (refused n) = refl
carve-next c (done a) = record-comes-back a.next

take_next : (c : CRecord) (a : Reply Removal) → record_in (take_struct c a).next ≡ record_after (λ r. r.next) (record_in c) a
take_next c (refused n) = refl
take_next c (done a) = record-comes-back a.next

open_next_lem : (c : CRecord) (a : Reply Opening) → record_in (open_struct c a).next ≡ record_after (λ r. r.next) (record_in c) a
open_next_lem c (refused n) = refl
open_next_lem c (done a) = record-comes-back a.next

finish-next : (c : CRecord) (a : Reply Record) → record_in (finish_struct c a).next ≡ record_after (λ r. r) (record_in c) a
finish-next c (refused n) = refl
finish-next c (done r) = record-comes-back r

abbrev with : Buffers → Record → State
with lent r = state r lent.dist lent.status

same-call : (c : Call) (h : Held) → state_in (call_from_c c h) ≡ (call c (state_in h)).end
unfolding call_from_c call
same-call (carve_up_to marks limit) h = let o = carve marks limit (state_in h) in ap (with o.lent) (carve-next h.given o.answer)
same-call (take_at marks i) h = let o = take marks i (state_in h) in ap (with o.lent) (take_next h.given o.answer)
same-call (open_one marks) h = let o = open_next marks (state_in h) in ap (with o.lent) (open_next_lem h.given o.answer)
same-call finish_it h = let o = finish (state_in h) in ap (with o.lent) (finish-next h.given o.answer)

-- ---- lists of calls

pub lists_agree : ListsAgree
unfolding run_from_c run
lists_agree [] h = refl
lists_agree (c ∷ cs) h = lists_agree cs (call_from_c c h) ∙ ap (λ (g : State). (run cs g).end) (same-call c h)

-- what holds of lists of calls from the state that a start leaves, holds of those from what it handed to C
from-state : (s : Sides) (values : List ℤ) (marks : List ℕ) (start : ℕ → Bool) (g : State) (begun : Held) → g ≡ state_in begun
    → ((calls : List Call) → Demand s values marks start g calls (run calls g).end (run calls g).answers) → DemandAfterC s values marks start begun
from-state s values marks start g begun same met calls =
    subst (λ (end : State). Demand s values marks start (state_in begun) calls end (run calls (state_in begun)).answers) (sym (lists_agree calls begun))
    (subst (λ (g : State). Demand s values marks start g calls (run calls g).end (run calls g).answers) same (met calls))

pub demand-from-c : DemandFromC
demand-from-c s T values marks dist status r e =
    let b = begin s T values marks dist status in
    let used = filled s values in
    from-state s used marks (in_box s (inside s used)) (state r b.lent.dist b.lent.status) (held (begin_struct b.answer).next b.lent)
    (ap (with b.lent) (sym (ap (λ (x : Reply Record). record_in (begin_struct x).next) e ∙ record-comes-back r)))
    (demand-is-met s T values marks dist status r e)

pub coarse-demand-from-c : CoarseDemandFromC
coarse-demand-from-c s T values marks lent c e =
    let b = begin_coarse s T values marks lent in
    from-state s (filled s values) marks (split_body s b.lent.blocks.status) (coarse_state b.lent c)
    (held (begin_coarse_struct b.answer).next b.lent.voxels)
    (ap (with b.lent.voxels) (sym (ap (λ (x : Reply CoarseStart). record_in (begin_coarse_struct x).next) e ∙ record-comes-back c.next)))
    (coarse-demand-is-met s T values marks lent c e)
