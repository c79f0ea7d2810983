-- Document 02's CR 11: lists for cases C and D of document 01, and for small bodies, on which a wrong judge shows. proofs/Examples.antt proves each by
-- computation.
use Rattle.std.specs.Prelude.{◌≡◌, cond, ◌||◌, List, [], ◌∷◌, ◌++◌, map, ℕ, set, pos, negsuc}
use Rattle.rules.specs.declared.Sides.{Sides}
use Rattle.rules.specs.declared.Record.{Record}
use Rattle.rules.specs.Grid.{is_in, voxels}
use Rattle.rules.specs.Answer.{Reply, refused, done}
use Rattle.rules.specs.Begin.{new_record}
use Rattle.rules.specs.Machine.{State, state, count, as_finished}
use Rattle.rules.specs.Demand.{carve_up_to, open_one}
use Rattle.rules.specs.Marks.{no_marks}
use Rattle.rules.specs.Cases.{sides, case_c, case_d, mark_d}
use Rattle.judging.specs.declared.Judgement.{Judgement}
use Rattle.judging.specs.Judge.{Entry, judge}
use Rattle.judging.specs.Own.{ordinary, opening, list_bytes, own_list}

abbrev pub judgement : ℕ → ℕ → ℕ → Reply Judgement
judgement removed opened euler = done (record { removed = removed; opened = opened; euler = pos euler })

abbrev pub answer_on : State → List Entry → Reply Judgement
answer_on g es = (judge (list_bytes es) g).answer

-- a record of another mark
abbrev pub strange : List ℕ
strange = 0x56 ∷ 0x50 ∷ 0 ∷ 0 ∷ 0 ∷ 0 ∷ []

-- ---- D: 22 and 25 are outside S, and pass; T = 0

pub record ListsOfD : Type 0 where
  -- the order of distances is free
  pub ours : answer_on case_d (ordinary 22 ∷ ordinary 25 ∷ []) ≡ judgement 2 0 1
  pub turned : answer_on case_d (ordinary 25 ∷ ordinary 22 ∷ []) ≡ judgement 2 0 1
  -- the first is what carve makes; with 22 pinned it makes another, which leaves 22 passing
  pub made : own_list (carve_up_to (no_marks (sides 4 4 3)) 9 ∷ []) case_d ≡ ordinary 22 ∷ ordinary 25 ∷ []
  pub pinned : answer_on case_d (own_list (carve_up_to (mark_d 22 1) 9 ∷ []) case_d) ≡ refused 33
  -- a voxel still passes
  pub short : answer_on case_d (ordinary 22 ∷ []) ≡ refused 33
  pub empty : answer_on case_d [] ≡ refused 33
  -- gone; of S
  pub twice : answer_on case_d (ordinary 22 ∷ ordinary 22 ∷ []) ≡ refused 32
  pub inner : answer_on case_d (ordinary 21 ∷ []) ≡ refused 32
  -- cut off; of another mark; beyond the grid, which is 5 and not 32
  pub cut : (judge (list_bytes (ordinary 22 ∷ ordinary 25 ∷ []) ++ (0x56 ∷ [])) case_d).answer ≡ refused 21
  pub marked : (judge (list_bytes (ordinary 22 ∷ []) ++ strange) case_d).answer ≡ refused 22
  pub far : answer_on case_d (ordinary 48 ∷ []) ≡ refused 5
  -- each before the next record is looked at: 22 before 21, 5 before 22, 32 before 5
  pub marked-first : (judge (strange ++ (0x56 ∷ [])) case_d).answer ≡ refused 22
  pub far-first : (judge (list_bytes (ordinary 48 ∷ []) ++ strange) case_d).answer ≡ refused 5
  pub broken-first : answer_on case_d (ordinary 21 ∷ ordinary 48 ∷ []) ≡ refused 32

-- the grid's own checks come first, and no later check reads the record's counts
abbrev pub with_d : (Record → Record) → State
with_d f = state (f case_d.rec) case_d.dist case_d.status

pub record RecordOfD : Type 0 where
  pub side : (judge strange (with_d (λ r. new_record (sides 2 4 3) 0))).answer ≡ refused 1
  pub length : (judge strange (state case_d.rec case_d.dist [])).answer ≡ refused 2
  pub unfit : (judge strange (with_d (λ r. as_finished (count r 0 0 1 (pos 0))))).answer ≡ refused 7
  pub finished : (judge strange (with_d as_finished)).answer ≡ refused 8
  pub counted : answer_on (with_d (λ r. count r 11 7 0 (pos 3))) (ordinary 22 ∷ ordinary 25 ∷ []) ≡ judgement 2 0 1

-- ---- C: the middle, 37, is outside S and pending, and does not pass: k = 1, m = 2

pub record ListsOfC : Type 0 where
  pub nothing : answer_on (case_c 0) [] ≡ judgement 0 0 1
  pub opened : answer_on (case_c 1) (opening 37 ∷ []) ≡ judgement 1 1 0
  pub none_allowed : answer_on (case_c 0) (opening 37 ∷ []) ≡ refused 32
  pub not-passing : answer_on (case_c 1) (ordinary 37 ∷ []) ≡ refused 32

-- ---- small bodies at rest: these voxels of S, those outside it

unfoldable pub body : Sides → ℕ → List ℕ → List ℕ → State
body s T S outer =
    state (new_record s T) (map (λ i. cond (is_in S i) (negsuc 0) (pos 1)) (voxels s)) (map (λ i. cond (is_in S i || is_in outer i) 1 0) (voxels s))

-- D, with nothing pending
unfoldable pub resting_d : ℕ → State
resting_d T = body (sides 4 4 3) T (21 ∷ 26 ∷ []) (22 ∷ 25 ∷ [])

-- 5, 5, 3: C, and with one voxel of the ring outside S, as in the arc
unfoldable pub ring : ℕ → State
ring T = body (sides 5 5 3) T (31 ∷ 32 ∷ 33 ∷ 36 ∷ 38 ∷ 41 ∷ 42 ∷ 43 ∷ []) (37 ∷ [])

unfoldable pub arc : State
arc = body (sides 5 5 3) 1 (31 ∷ 32 ∷ 33 ∷ 38 ∷ 41 ∷ 42 ∷ 43 ∷ []) (36 ∷ 37 ∷ [])

-- 6, 5, 3: a ring around two voxels, of which the second is the farther
unfoldable pub two_within : State
two_within =
    let g = body (sides 6 5 3) 1 (37 ∷ 38 ∷ 39 ∷ 40 ∷ 43 ∷ 46 ∷ 49 ∷ 50 ∷ 51 ∷ 52 ∷ []) (44 ∷ 45 ∷ []) in
    state g.rec (set g.dist 45 (pos 2)) g.status

-- 5, 5, 5: a voxel with its six face neighbours
unfoldable pub cross : State
cross = body (sides 5 5 5) 1 (37 ∷ 57 ∷ 61 ∷ 63 ∷ 67 ∷ 87 ∷ []) (62 ∷ [])

-- the record's own openings
abbrev pub opened_before : State → State
opened_before g = state (count g.rec 0 0 1 (pos 0)) g.dist g.status

pub record SmallBodies : Type 0 where
  -- whether a voxel is pending does not matter
  pub at_rest : answer_on (resting_d 0) (ordinary 22 ∷ ordinary 25 ∷ []) ≡ judgement 2 0 1
  pub at-rest-short : answer_on (resting_d 0) [] ≡ refused 33
  -- an opening that passes itself; one that fails, while another voxel passes; after that one is gone it passes, and is no opening any more
  pub opens-passing : answer_on (resting_d 1) (opening 22 ∷ ordinary 25 ∷ []) ≡ refused 32
  pub opens-early : answer_on arc (opening 37 ∷ []) ≡ refused 32
  pub opens-late : answer_on arc (ordinary 36 ∷ opening 37 ∷ []) ≡ refused 32
  pub both-ordinary : answer_on arc (ordinary 36 ∷ ordinary 37 ∷ []) ≡ judgement 2 0 1
  -- no face neighbour is gone
  pub opens-within : answer_on cross (opening 62 ∷ []) ≡ refused 32
  -- T openings, and the record's own do not count; opening T + 1
  pub opened-before : answer_on (opened_before (ring 1)) (opening 37 ∷ []) ≡ judgement 1 1 0
  pub one-too-many : answer_on two_within (opening 44 ∷ opening 45 ∷ []) ≡ refused 32
  -- the nearer may be opened first, and the other goes then
  pub nearer : answer_on two_within (opening 44 ∷ ordinary 45 ∷ []) ≡ judgement 2 1 0
  pub farther : answer_on two_within (opening 45 ∷ ordinary 44 ∷ []) ≡ judgement 2 1 0
  -- an opening leaves a voxel that passes
  pub left-passing : answer_on two_within (opening 44 ∷ []) ≡ refused 33
  -- open takes the farther
  pub made : own_list (open_one (no_marks (sides 6 5 3)) ∷ carve_up_to (no_marks (sides 6 5 3)) 9 ∷ []) two_within ≡ opening 45 ∷ ordinary 44 ∷ []
