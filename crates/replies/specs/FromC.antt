-- Calls from C: between two calls the record goes out as a struct and comes back in, and nothing is lost on the way. So demand 3, a claim about lists
-- of calls, holds of lists of calls from C, after begin and after a coarse start. proofs/FromC.antt proves it.
use Rattle.std.specs.Prelude.{◌≡◌, List, [], ◌∷◌, Bool, ℕ, ◌≤◌, ℤ}
use Rattle.rules.specs.declared.Sides.{Sides}
use Rattle.rules.specs.declared.Record.{Record}
use Rattle.rules.specs.Fill.{filled}
use Rattle.rules.specs.Answer.{done, Buffers}
use Rattle.rules.specs.Begin.{inside, in_box, begin}
use Rattle.rules.specs.Machine.{State, state, carve, take, open_next, finish}
use Rattle.rules.specs.Demand.{Call, carve_up_to, take_at, open_one, finish_it, run, Demand}
use Rattle.coarse.specs.Blocks.{split_body}
use Rattle.coarse.specs.declared.CoarseStart.{CoarseStart}
use Rattle.coarse.specs.Coarse.{FourBuffers, begin_coarse}
use Rattle.replies.specs.declared.CRecord.{CRecord}
use Rattle.replies.specs.Structs.{record_in, record_out, begin_struct, begin_coarse_struct, carve_struct, take_struct, open_struct, finish_struct}

-- ---- the record

-- what goes out to C comes back as it was
abbrev pub RecordComesBack : Type 0
RecordComesBack = (r : Record) → record_in (record_out r) ≡ r

-- and so does what comes in from C, where its byte is 0 or 1
abbrev pub ByteComesBack : Type 0
ByteComesBack = (c : CRecord) → c.finished ≤ 1 → record_out (record_in c) ≡ c

-- ---- lists of calls

-- what C holds between two calls
pub record Held : Type 0 where
  pub given : CRecord
  pub dist : List ℤ
  pub status : List ℕ

abbrev pub held : CRecord → Buffers → Held
held next lent = record { given = next; dist = lent.dist; status = lent.status }

-- the state that a call makes of it
abbrev pub state_in : Held → State
state_in h = state (record_in h.given) h.dist h.status

-- after a call C holds the struct's record, `next`, and the buffers
unfoldable pub call_from_c : Call → Held → Held
call_from_c (carve_up_to marks limit) h = let o = carve marks limit (state_in h) in held (carve_struct h.given o.answer).next o.lent
call_from_c (take_at marks i) h = let o = take marks i (state_in h) in held (take_struct h.given o.answer).next o.lent
call_from_c (open_one marks) h = let o = open_next marks (state_in h) in held (open_struct h.given o.answer).next o.lent
call_from_c finish_it h = let o = finish (state_in h) in held (finish_struct h.given o.answer).next o.lent

unfoldable pub run_from_c : List Call → Held → Held
run_from_c [] h = h
run_from_c (c ∷ cs) h = run_from_c cs (call_from_c c h)

-- a list of calls from C leaves the state that the list leaves by the rules
abbrev pub ListsAgree : Type 0
ListsAgree = (calls : List Call) (h : Held) → state_in (run_from_c calls h) ≡ (run calls (state_in h)).end

-- demand 3 after any list of calls from C: of the values that a start worked on, the marks that it was lent, the body that it started with, and what it
-- handed to C
abbrev pub DemandAfterC : Sides → List ℤ → List ℕ → (ℕ → Bool) → Held → Type 0
DemandAfterC s values marks start begun =
    (calls : List Call)
    → Demand s values marks start (state_in begun) calls (state_in (run_from_c calls begun)) (run calls (state_in begun)).answers

abbrev pub DemandFromC : Type 0
DemandFromC =
    (s : Sides) (T : ℕ) (values : List ℤ) (marks : List ℕ) (dist : List ℤ) (status : List ℕ) (r : Record)
    → (begin s T values marks dist status).answer ≡ done r
    → let b = begin s T values marks dist status in
    let used = filled s values in
    DemandAfterC s used marks (in_box s (inside s used)) (held (begin_struct b.answer).next b.lent)

abbrev pub CoarseDemandFromC : Type 0
CoarseDemandFromC =
    (s : Sides) (T : ℕ) (values : List ℤ) (marks : List ℕ) (lent : FourBuffers) (c : CoarseStart)
    → (begin_coarse s T values marks lent).answer ≡ done c
    → let b = begin_coarse s T values marks lent in
    DemandAfterC s (filled s values) marks (split_body s b.lent.blocks.status) (held (begin_coarse_struct b.answer).next b.lent.voxels)
