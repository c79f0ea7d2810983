-- Document 01, "The carving machine", carve: many small carves that are lent the same marks are one large carve. proofs/Slices.antt proves it.
use Rattle.std.specs.Prelude.{◌≡◌, Bool, false, List, ◌∷◌, ℕ, ◌+◌, length}
use Rattle.rules.specs.declared.Sides.{Sides}
use Rattle.rules.specs.Grid.{size}
use Rattle.rules.specs.declared.Carving.{Carving}
use Rattle.rules.specs.Answer.{done, outcome}
use Rattle.rules.specs.Status.{Progress, progress, latest, carving}
use Rattle.rules.specs.Marks.{stray_mark}
use Rattle.rules.specs.Machine.{State, carve}
use Rattle.rules.specs.Demand.{Promise, FromBegin, Call, carve_up_to, call, run}

-- ---- m + n examinations are m, and n after them

abbrev pub in_two : Progress → Progress → Progress
in_two p q = progress (p.examined + q.examined) (p.removed + q.removed) (latest p.face q.removed q.face) q.status

abbrev pub CarvingsAdd : Type 0
CarvingsAdd =
    (s : Sides) (free : ℕ → Bool) (ahead : ℕ → ℕ → Bool) (m n : ℕ) (status : List ℕ)
    → let first = carving s free ahead m status in
    carving s free ahead (m + n) status ≡ in_two first (carving s free ahead n first.status)

-- ---- the calls

-- the answers of two carves add up; pending, the record and the buffers are those of the second, and so is the face where it removed any
pub record CarvedInTwo (lent : List ℕ) (m n : ℕ) (g : State) : Type 0 where
  pub first : Carving
  pub second : Carving
  pub first-answer : (carve lent m g).answer ≡ done first
  pub second-answer : (carve lent n (call (carve_up_to lent m) g).end).answer ≡ done second
  pub whole : carve lent (m + n) g
      ≡ outcome (done (record {
        examined = first.examined + second.examined;
        removed = first.removed + second.removed;
        pending = second.pending;
        face = latest first.face second.removed second.face;
        next = second.next;
      })) (carve lent n (call (carve_up_to lent m) g).end).lent

-- after any list of calls, not finished; both carves are lent the same n marks of at most 3
abbrev pub CarvesAddAfter : Promise
CarvesAddAfter s T values marks start begun =
    (calls : List Call) (lent : List ℕ) → length lent ≡ size s → stray_mark lent ≡ false
    → let g = (run calls begun).end in g.rec.finished ≡ false → (m n : ℕ) → CarvedInTwo lent m n g

abbrev pub CarvesAdd : Type 0
CarvesAdd = FromBegin CarvesAddAfter

-- so in any list of calls two carves in a row that are lent the same marks, whatever they are, may be made one, with the same state and the same sums
-- after the list: where one is refused, all three are
abbrev pub CarvesJoinAfter : Promise
CarvesJoinAfter s T values marks start begun =
    (calls more : List Call)
    → let g = (run calls begun).end in
    (lent : List ℕ) (m n : ℕ) → run (carve_up_to lent m ∷ carve_up_to lent n ∷ more) g ≡ run (carve_up_to lent (m + n) ∷ more) g

abbrev pub CarvesJoin : Type 0
CarvesJoin = FromBegin CarvesJoinAfter
