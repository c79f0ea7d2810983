-- Many small carves that are lent the same marks are one large carve.
use mathlib.Core.Path.{◌≡◌, refl, ap, ap₂, sym, ◌∙◌, subst}
use mathlib.Core.Bool.{Bool, true, false, cond}
use mathlib.Core.List.{List, [], ◌∷◌, ◌++◌}
use Rattle.std.specs.Prelude.{Option, None, Some}
use Prim.Native.Nat.{ℕ, zero, suc, ◌+◌}
use native.Mathlib.Omega.{arith}
use native.Mathlib.Decide.{ℕ_discrete}
use lib.IntN.{ℤ, pos, ◌+ℤ◌, +ℤ_assoc, +ℤ_idr}
use Rattle.rules.specs.declared.Sides.{Sides}
use Rattle.rules.specs.declared.Record.{Record}
use Rattle.rules.specs.Grid.{size}
use Rattle.rules.specs.Checks.{first_failing, AllHold}
use Rattle.rules.specs.declared.Carving.{Carving}
use Rattle.rules.specs.Answer.{Reply, done, Outcome, outcome, untouched, Buffers, buffers}
use Rattle.rules.specs.Status.{Progress, progress, latest, counted, is_pending, any_pending, test_at, first_of, goes, examine, examining, carving}
use Rattle.rules.specs.Marks.{marked}
use Rattle.rules.specs.Machine.{State, state, after, lent_to, may_go, sooner, count, state_checks, marked_checks, carved, carve}
use Rattle.rules.specs.Fit.{Marking}
use Rattle.rules.specs.Demand.{Call, carve_up_to, Run, stop, Sums, sums, nothing, both, of_carve, call, run}
use Rattle.rules.specs.Slices.{in_two, CarvingsAdd, CarvedInTwo, CarvesAddAfter, CarvesAdd, CarvesJoinAfter, CarvesJoin}
use Rattle.rules.proofs.Checks.{all_hold, call-refused}
use Rattle.rules.proofs.Fit.{fit-state, marking}
use Rattle.rules.proofs.Demand.{run-append, Startable, start_state, FromStart, demand-after, from-begin}
use Rattle.rules.proofs.Latest.{latest-assoc, carving-face}
use Rattle.rules.proofs.NeverUnfit.{is-carved, end-fit, fit-after}

-- ---- the examinations

module _ (s : Sides) (free : ℕ → Bool) (ahead : ℕ → ℕ → Bool) where
  -- what follows the choice of a voxel
  abbrev pub next : ℕ → List ℕ → Option ℕ → Progress
  next limit status o = examining s free status (λ i. carving s free ahead limit (examine s free status i)) o

  after_none : (p : Progress) (status : List ℕ) → latest 6 p.removed p.face ≡ p.face → p ≡ in_two (progress 0 0 6 status) p
  after_none p status e = λ i. progress (same p.examined i) (same p.removed i) (sym e i) p.status
    where
      same : (n : ℕ) → n ≡ 0 + n
      same n = omega arith

  after_one : (u : Bool) (face : ℕ) (p q : Progress) → counted u face (in_two p q) ≡ in_two (counted u face p) q
  after_one u face p q = λ i. progress (examined i) (removed u i) (latest-assoc (cond u face 6) p.removed p.face q.removed q.face i) q.status
    where
      examined : suc (p.examined + q.examined) ≡ suc p.examined + q.examined
      examined = omega arith

      removed : (u : Bool) → cond u (suc (p.removed + q.removed)) (p.removed + q.removed) ≡ cond u (suc p.removed) p.removed + q.removed
      removed true = omega arith
      removed false = refl

  pub quiet : (n : ℕ) (status : List ℕ) → first_of s ahead (is_pending status) ≡ None → carving s free ahead n status ≡ progress 0 0 6 status
  unfolding carving
  quiet zero status e = refl
  quiet (suc n) status e = ap (next n status) e

  add : (m n : ℕ) (status : List ℕ)
      → let first = carving s free ahead m status in carving s free ahead (m + n) status ≡ in_two first (carving s free ahead n first.status)
  unfolding carving
  add zero n status =
      let e : 0 + n ≡ n = omega arith in
      ap (λ (k : ℕ). carving s free ahead k status) e ∙ after_none (carving s free ahead n status) status (carving-face s free ahead n status)
  add (suc m) n status =
      let e : suc m + n ≡ suc (m + n) = omega arith in
      ap (λ (k : ℕ). carving s free ahead k status) e ∙ go (first_of s ahead (is_pending status)) refl (λ i. add m n (examine s free status i))
    where
      go : (o : Option ℕ) → first_of s ahead (is_pending status) ≡ o
          → ((i : ℕ) → let first = carving s free ahead m (examine s free status i) in
          carving s free ahead (m + n) (examine s free status i) ≡ in_two first (carving s free ahead n first.status))
          → next (m + n) status o ≡ in_two (next m status o) (carving s free ahead n (next m status o).status)
      go None e ih = after_none (progress 0 0 6 status) status refl ∙ ap (in_two (progress 0 0 6 status)) (sym (quiet n status e))
      go (Some i) e ih =
          let u = goes s free status i in
          let face = (test_at s status i).face in
          let first = carving s free ahead m (examine s free status i) in
          ap (counted u face) (ih i) ∙ after_one u face first (carving s free ahead n first.status)

pub carvings-add : CarvingsAdd
carvings-add = add

-- ---- a call that is not refused

count-twice : (r : Record) (e f p q : ℕ) → count r (e + f) (p + q) 0 (pos 0) ≡ count (count r e p 0 (pos 0)) f q 0 (pos 0)
count-twice r e f p q = λ i.
    record {
      sides = r.sides;
      allowed = r.allowed;
      openings = none_more i;
      removals = more r.removals p q i;
      examinations = more r.examinations e f i;
      euler = sym (+ℤ_idr (r.euler +ℤ pos 0)) i;
      finished = r.finished;
    }
  where
    none_more : r.openings + 0 ≡ r.openings + 0 + 0
    none_more = omega arith

    more : (n k l : ℕ) → n + (k + l) ≡ n + k + l
    more n k l = omega arith

module _ (lent : List ℕ) where
  abbrev run_of : State → ℕ → Progress
  run_of g limit = let m = marked lent in carving g.rec.sides (may_go m g.dist) (sooner m g.dist) limit g.status

  -- the answer and the buffers, by what was done
  abbrev told : State → Progress → Outcome Buffers Carving
  told g p =
      outcome
      (done (
      record {
        examined = p.examined;
        removed = p.removed;
        pending = any_pending g.rec.sides p.status;
        face = p.face;
        next = count g.rec p.examined p.removed 0 (pos 0);
      }
      ))
      (buffers g.dist p.status)

  abbrev further : State → ℕ → State
  further g limit = let p = run_of g limit in state (count g.rec p.examined p.removed 0 (pos 0)) g.dist p.status

  told-carve : (limit : ℕ) (g : State) → Marking lent g → carve lent limit g ≡ told g (run_of g limit)
  unfolding carved
  told-carve limit g w = is-carved lent limit g w

  -- the marks that the first carve is lent are right for the second: it is neither finished nor of other sides
  module _ (m n : ℕ) (g : State) (w : Marking lent g) (fit-after : AllHold (state_checks (call (carve_up_to lent m) g).end)) where
    abbrev h : State
    h = (call (carve_up_to lent m) g).end

    goes_on : h ≡ further g m
    unfolding call
    goes_on = ap (after (λ r. r.next) g) (told-carve m g w)

    marking-after : Marking lent h
    marking-after =
        record {
          working = record { fit = fit-state h fit-after; unfinished = ap (λ (k : State). k.rec.finished) goes_on ∙ w.working.unfinished };
          lent = w.lent ∙ ap (λ (k : State). size k.rec.sides) (sym goes_on);
          known = w.known;
        }

    carved-second : carve lent n h ≡ told (further g m) (run_of (further g m) n)
    carved-second = told-carve n h marking-after ∙ ap (λ (k : State). told k (run_of k n)) goes_on

    carved-whole : carve lent (m + n) g ≡ told g (in_two (run_of g m) (run_of (further g m) n))
    carved-whole =
        let d = marked lent in
        told-carve (m + n) g w ∙ ap (told g) (add g.rec.sides (may_go d g.dist) (sooner d g.dist) m n g.status)

    carved-in-two : CarvedInTwo lent m n g
    carved-in-two =
        let p = run_of g m in
        let q = run_of (further g m) n in
        let s = g.rec.sides in
        let first = count g.rec p.examined p.removed 0 (pos 0) in
        let answer : Record → Carving =
        λ r.
        record {
          examined = p.examined + q.examined;
          removed = p.removed + q.removed;
          pending = any_pending s q.status;
          face = latest p.face q.removed q.face;
          next = r;
        } in
        record {
          first = record { examined = p.examined; removed = p.removed; pending = any_pending s p.status; face = p.face; next = first };
          second = record {
            examined = q.examined;
            removed = q.removed;
            pending = any_pending s q.status;
            face = q.face;
            next = count first q.examined q.removed 0 (pos 0);
          };
          first-answer = ap (λ (o : Outcome Buffers Carving). o.answer) (told-carve m g w);
          second-answer = ap (λ (o : Outcome Buffers Carving). o.answer) carved-second;
          whole =
              carved-whole
              ∙ ap₂ (λ (r : Record) (l : Buffers). outcome (done (answer r)) l)
              (count-twice g.rec p.examined q.examined p.removed q.removed)
              (ap (λ (o : Outcome Buffers Carving). o.lent) (sym carved-second));
        }

-- ---- two calls of a list that are as one

both-assoc : (a b c : Sums) → both a (both b c) ≡ both (both a b) c
both-assoc a b c = λ i.
    sums (more a.examined b.examined c.examined i) (more a.removed b.removed c.removed i)
    (more a.opened b.opened c.opened i) (sym (+ℤ_assoc a.change b.change c.change) i)
  where
    more : (n k l : ℕ) → n + (k + l) ≡ n + k + l
    more n k l = omega arith

run-two : (c d e : Call) (more : List Call) (g : State) → (call d (call c g).end).end ≡ (call e g).end
    → both (call c g).answers (call d (call c g).end).answers ≡ (call e g).answers → run (c ∷ d ∷ more) g ≡ run (e ∷ more) g
unfolding run
run-two c d e more g p q =
    let h = (call c g).end in
    let rest : State → Run = run more in
    ap (stop (rest (call d h).end).end) (both-assoc (call c g).answers (call d h).answers (rest (call d h).end).answers)
    ∙ ap₂ (λ (k : State) (a : Sums). stop (run more k).end (both a (run more k).answers)) p q

module _ (lent : List ℕ) (m n : ℕ) (more : List Call) (g : State) where
  abbrev together : Type 0
  together = run (carve_up_to lent m ∷ carve_up_to lent n ∷ more) g ≡ run (carve_up_to lent (m + n) ∷ more) g

  -- the number does not depend on the limit
  refuses : (first_failing (marked_checks lent g) ≡ 0 → ⊥) → (limit : ℕ) → call (carve_up_to lent limit) g ≡ stop g nothing
  unfolding call carve
  refuses f limit =
      let d = marked lent in
      ap (λ (o : Outcome Buffers Carving). stop (after (λ r. r.next) g o) (of_carve o.answer))
      (sym (call-refused (untouched (lent_to g)) (carved (may_go d g.dist) (sooner d g.dist) limit g) (marked_checks lent g)
      (first_failing (marked_checks lent g)) refl f))

  join-refused : (first_failing (marked_checks lent g) ≡ 0 → ⊥) → together
  join-refused f =
      let one : (limit : ℕ) → call (carve_up_to lent limit) g ≡ stop g nothing = refuses f in
      let c = carve_up_to lent m in
      let first : (call c g).end ≡ g = ap (λ (r : Run). r.end) (one m) in
      let second : call (carve_up_to lent n) (call c g).end ≡ stop g nothing = ap (call (carve_up_to lent n)) first ∙ one n in
      run-two c (carve_up_to lent n) (carve_up_to lent (m + n)) more g (ap (λ (r : Run). r.end) (second ∙ sym (one (m + n))))
      (ap₂ both (ap (λ (r : Run). r.answers) (one m)) (ap (λ (r : Run). r.answers) second) ∙ ap (λ (r : Run). r.answers) (sym (one (m + n))))

  join-carved : CarvedInTwo lent m n g → together
  unfolding call
  join-carved t =
      let h = (call (carve_up_to lent m) g).end in
      run-two (carve_up_to lent m) (carve_up_to lent n) (carve_up_to lent (m + n)) more g
      (ap (λ (a : Reply Carving). after (λ r. r.next) h (outcome a (carve lent n h).lent)) t.second-answer
      ∙ ap (after (λ r. r.next) g) (sym t.whole))
      (ap₂ (λ (a b : Reply Carving). both (of_carve a) (of_carve b)) t.first-answer t.second-answer
      ∙ ap (λ (o : Outcome Buffers Carving). of_carve o.answer) (sym t.whole))

-- ---- after a start, and any list of calls

module _ (s : Sides) (T : ℕ) (values : List ℤ) (marks : List ℕ) (start : ℕ → Bool) (from : Startable s values start) (calls : List Call) where
  abbrev begun : State
  begun = start_state s T values (marked marks) start

  abbrev g : State
  g = (run calls begun).end

  after_call : (c : Call) → AllHold (state_checks (call c g).end)
  unfolding run
  after_call c =
      subst (λ (h : State). AllHold (state_checks h)) (run-append calls (c ∷ []) begun) (fit-after s T values marks start from (calls ++ (c ∷ [])))

  add-calls : (lent : List ℕ) → Marking lent g → (m n : ℕ) → CarvedInTwo lent m n g
  add-calls lent w m n = carved-in-two lent m n g w (after_call (carve_up_to lent m))

pub carves-add-after : FromStart CarvesAddAfter
carves-add-after s T values marks start from calls lent l k f =
    add-calls s T values marks start from calls lent
    (record {
      working = record { fit = end-fit s values start from T (marked marks) calls; unfinished = f };
      lent = l ∙ ap size (sym (demand-after s T values marks start from calls).same-sides);
      known = k;
    })

pub carves-add : CarvesAdd
carves-add = from-begin CarvesAddAfter carves-add-after

pub carves-join-after : FromStart CarvesJoinAfter
carves-join-after s T values marks start from calls more lent m n =
    let g = (run calls (start_state s T values (marked marks) start)).end in
    elim (ℕ_discrete (first_failing (marked_checks lent g)) 0) [
      | yes z ↦
          let w = marking g lent (all_hold (marked_checks lent g) refl z) in
          join-carved lent m n more g (add-calls s T values marks start from calls lent w m n)
      | no f ↦ join-refused lent m n more g f
    ]

pub carves-join : CarvesJoin
carves-join = from-begin CarvesJoinAfter carves-join-after
