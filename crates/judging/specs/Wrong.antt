-- Judges by another rule, part by part, and that none of them is the rule: a worked list tells each (proofs/Wrong.antt).
use Rattle.std.specs.Prelude.{◌≡◌, Bool, false, not, cond, ◌&&◌, ◌||◌, List, [], ◌∷◌, ◌++◌, ℕ, zero, suc, ◌+◌, ◌-◌, ◌*◌, ◌%◌, leb, ltb, eqb, length, pos}
use Rattle.cells.specs.Groups.{any}
use Rattle.cells.specs.Cells.{test, passes}
use Rattle.rules.specs.Grid.{size, range, voxels, neighbourhood}
use Rattle.rules.specs.Begin.{exposed}
use Rattle.rules.specs.Checks.{Check, ◌when◌, unless}
use Rattle.rules.specs.Answer.{Reply, refused, done, Answers}
use Rattle.rules.specs.Status.{is_kept, is_pending}
use Rattle.rules.specs.Machine.{State, is_inside, farther, working_checks, quiet_checks}
use Rattle.format.specs.Bytes.{tagged}
use Rattle.judging.specs.Judge.{Entry, entry_length, entry_at, entry_count, entries_in, Body, start_from, goes, leaves, can_pass, some_passes, can_open, allows}
use Rattle.judging.specs.declared.Judgement.{Judgement}
use Rattle.judging.specs.Judge.{judgement_of, judge}
use Rattle.judging.specs.Examples.{ring}

-- ---- judge in parts: the body at the start, what is checked before the first record, the order of a record's own four checks, which entry may be
-- next, what 33 asks at the end, and what is answered

unfoldable pub list_by : (Check → Check → Check → Check → List Check) → (State → Body → Entry → Bool) → (State → Body → Bool)
    → List ℕ → State → ℕ → ℕ → Body → List Check
list_by ordered may left list g zero r b = 33 when left g b ∷ []
list_by ordered may left list g (suc more) r b =
    let start = entry_length * r in
    let e = entry_at list start in
    ordered
    (21 when ltb (length list) (start + entry_length))
    (22 when not (tagged 0x52 list start || tagged 0x4F list start))
    (5 when leb (size g.rec.sides) e.at)
    (32 when not (may g b e))
    ++ list_by ordered may left list g more (suc r) (goes g.rec.sides b e)

unfoldable pub judge_by : (State → Body) → (List ℕ → State → List Check) → (Check → Check → Check → Check → List Check)
    → (State → Body → Entry → Bool) → (State → Body → Bool) → (Body → Judgement) → List ℕ → State → Reply Judgement
judge_by from ahead ordered may left answer list g =
    unless (working_checks g ++ (ahead list g ++ list_by ordered may left list g (entry_count list) 0 (from g))) (λ n. refused n)
    (done (answer (leaves g.rec.sides (from g) (entries_in list))))

-- the rule's own parts
abbrev pub fresh : State → Body
fresh g = start_from g.status

abbrev pub nothing_ahead : List ℕ → State → List Check
nothing_ahead list g = []

abbrev pub in_order : Check → Check → Check → Check → List Check
in_order a b c d = a ∷ b ∷ c ∷ d ∷ []

abbrev pub in_turn : State → Body → Entry → Bool
in_turn g b e = allows g.rec.sides (is_inside g.dist) g.rec.allowed b e

abbrev pub still_passes : State → Body → Bool
still_passes g b = some_passes g.rec.sides (is_inside g.dist) b.kept

abbrev pub JudgeInParts : Type 0
JudgeInParts = (list : List ℕ) (g : State) → (judge list g).answer ≡ judge_by fresh nothing_ahead in_order in_turn still_passes judgement_of list g

-- ---- with one of them another

abbrev pub Other : (List ℕ → State → Reply Judgement) → Type 0
Other other = ((list : List ℕ) (g : State) → (judge list g).answer ≡ other list g) → ⊥

abbrev pub OtherStart : (State → Body) → Type 0
OtherStart from = Other (judge_by from nothing_ahead in_order in_turn still_passes judgement_of)

abbrev pub OtherAhead : (List ℕ → State → List Check) → Type 0
OtherAhead ahead = Other (judge_by fresh ahead in_order in_turn still_passes judgement_of)

abbrev pub OtherOrder : (Check → Check → Check → Check → List Check) → Type 0
OtherOrder ordered = Other (judge_by fresh nothing_ahead ordered in_turn still_passes judgement_of)

abbrev pub OtherTurn : (State → Body → Entry → Bool) → Type 0
OtherTurn may = Other (judge_by fresh nothing_ahead in_order may still_passes judgement_of)

abbrev pub OtherEnd : (State → Body → Bool) → Type 0
OtherEnd left = Other (judge_by fresh nothing_ahead in_order in_turn left judgement_of)

abbrev pub OtherAnswer : (Body → Judgement) → Type 0
OtherAnswer answer = Other (judge_by fresh nothing_ahead in_order in_turn still_passes answer)

-- counts that start at the record's
abbrev pub removals_kept : State → Body
removals_kept g = record { kept = is_kept g.status; removed = g.rec.removals; opened = 0; euler = pos 1 }

abbrev pub euler_kept : State → Body
euler_kept g = record { kept = is_kept g.status; removed = 0; opened = 0; euler = g.rec.euler }

-- so the record's own openings count against T
abbrev pub openings_kept : State → Body
openings_kept g = record { kept = is_kept g.status; removed = 0; opened = g.rec.openings; euler = pos 1 }

-- looked for in the whole list first
abbrev pub whole_first : List ℕ → State → List Check
whole_first list g = 21 when not (eqb (length list % entry_length) 0) ∷ []

abbrev pub marks_first : List ℕ → State → List Check
marks_first list g =
    22 when any (λ r. not (tagged 0x52 list (entry_length * r) || tagged 0x4F list (entry_length * r))) (range 0 (entry_count list)) ∷ []

abbrev pub indices_first : List ℕ → State → List Check
indices_first list g = 5 when any (λ r. leb (size g.rec.sides) (entry_at list (entry_length * r)).at) (range 0 (entry_count list)) ∷ []

-- an entry by other clauses: of an opening, and of an ordinary voxel
abbrev pub by_clauses : (State → (ℕ → Bool) → ℕ → Bool) → (State → (ℕ → Bool) → ℕ → Bool) → State → Body → Entry → Bool
by_clauses opens takes g b e = cond e.opens (opens g b.kept e.at && ltb b.opened g.rec.allowed) (takes g b.kept e.at)

module _ (g : State) (kept : ℕ → Bool) where
  abbrev pub may_open : ℕ → Bool
  may_open i = can_open g.rec.sides (is_inside g.dist) kept i

  abbrev pub may_pass : ℕ → Bool
  may_pass i = can_pass g.rec.sides (is_inside g.dist) kept i

  abbrev pub kept_outside : ℕ → Bool
  kept_outside i = kept i && not (is_inside g.dist i)

  -- an opening while a voxel passes; while another one passes
  abbrev pub opens_any_time : ℕ → Bool
  opens_any_time i = kept_outside i && exposed g.rec.sides kept i

  abbrev pub opens_if_it_fails : ℕ → Bool
  opens_if_it_fails i = opens_any_time i && not (passes (test (neighbourhood g.rec.sides kept i)))

  -- one without a face neighbour gone
  abbrev pub opens_within : ℕ → Bool
  opens_within i = kept_outside i && not (some_passes g.rec.sides (is_inside g.dist) kept)

  -- none farther may be opened; none farther passes
  abbrev pub opens_farthest : ℕ → Bool
  opens_farthest i = may_open i && not (any (λ j. may_open j && farther g.dist j i) (voxels g.rec.sides))

  abbrev pub takes_farthest : ℕ → Bool
  takes_farthest i = may_pass i && not (any (λ j. may_pass j && farther g.dist j i) (voxels g.rec.sides))

  -- of S
  abbrev pub takes_inside : ℕ → Bool
  takes_inside i = kept i && passes (test (neighbourhood g.rec.sides kept i))

  -- pending at the start
  abbrev pub takes_pending : ℕ → Bool
  takes_pending i = may_pass i && is_pending g.status i

-- T + 1 openings
abbrev pub one_more : State → Body → Entry → Bool
one_more g b e = cond e.opens (may_open g b.kept e.at && leb b.opened g.rec.allowed) (may_pass g b.kept e.at)

-- 33 asks of the voxels that were pending alone
abbrev pub pending_passes : State → Body → Bool
pending_passes g b = any (λ i. is_pending g.status i && may_pass g b.kept i) (voxels g.rec.sides)

pub record WrongJudges : Type 0 where
  pub removals-of-the-record : OtherStart removals_kept
  pub euler-of-the-record : OtherStart euler_kept
  pub openings-of-the-record : OtherStart openings_kept
  pub whole-list-first : OtherAhead whole_first
  pub all-marks-first : OtherAhead marks_first
  pub all-indices-first : OtherAhead indices_first
  -- nothing pending is asked for
  pub asks-for-quiet : OtherAhead (λ list g. quiet_checks g)
  -- 22 before 21; 5 before 22; 32 before 5
  pub marks-before-length : OtherOrder (λ a b c d. b ∷ a ∷ c ∷ d ∷ [])
  pub index-before-marks : OtherOrder (λ a b c d. a ∷ c ∷ b ∷ d ∷ [])
  pub turn-before-index : OtherOrder (λ a b c d. a ∷ b ∷ d ∷ c ∷ [])
  pub opens-while-one-passes : OtherTurn (by_clauses opens_any_time may_pass)
  pub opens-while-another-passes : OtherTurn (by_clauses opens_if_it_fails may_pass)
  pub opens-within : OtherTurn (by_clauses opens_within may_pass)
  pub opens-farthest : OtherTurn (by_clauses opens_farthest may_pass)
  pub takes-farthest : OtherTurn (by_clauses may_open takes_farthest)
  pub takes-inside : OtherTurn (by_clauses may_open takes_inside)
  pub takes-failing : OtherTurn (by_clauses may_open kept_outside)
  pub takes-pending : OtherTurn (by_clauses may_open takes_pending)
  pub one-opening-more : OtherTurn one_more
  -- 33 is forgotten; or asks for pending voxels
  pub end-unchecked : OtherEnd (λ g b. false)
  pub end-asks-for-pending : OtherEnd pending_passes
  -- an opening is no removal
  pub removals-without-openings : OtherAnswer (λ b. record { removed = b.removed - b.opened; opened = b.opened; euler = b.euler })

-- ---- no judge that always refuses, or gives a constant

abbrev pub JudgeAnswers : Type 0
JudgeAnswers = Answers (λ (list : List ℕ). (judge list (ring 1)).answer)
