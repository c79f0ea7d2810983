-- Document 02's CR 14: worked calls of serve, on cases A and D of document 01 and on smaller grids. proofs/Examples.antt proves each by computation.
use Rattle.std.specs.Prelude.{◌≡◌, List, [], ◌∷◌, ◌++◌, map, ℕ, set, replicate, pos}
use Rattle.rules.specs.Answer.{Reply, refused}
use Rattle.rules.specs.Begin.{new_record}
use Rattle.rules.specs.Machine.{State, state, count, as_finished}
use Rattle.rules.specs.Cases.{sides, case_a, case_d, box_d, mark_d}
use Rattle.office.specs.Parts.{total}
use Rattle.office.specs.declared.Serving.{Serving}
use Rattle.office.specs.Serve.{Office, sizes, grid_at, serve}
use Rattle.office.specs.Lists.{Request, services, after_all, office_of}

-- no voxel is marked
abbrev pub no_mark : Office → List ℕ
no_mark o = replicate (total (sizes o)) 0

-- so many examinations in each call
abbrev pub limits : Office → List ℕ → List Request
limits o = map (λ limit. record { marks = no_mark o; limit = limit })

abbrev pub places : List Request → Office → List ℕ
places calls o = map (λ c. c.place) (services calls o)

-- ---- three grids: D, where 22 and 25 go; A, with nothing pending; D again

unfoldable pub three : List ℕ → Office
three order = office_of order (case_d ∷ case_a ∷ case_d ∷ [])

-- marks for the last of them
abbrev pub last_marks : List ℕ → List Request
last_marks marks = record { marks = replicate 75 0 ++ marks; limit = 1 } ∷ []

pub record ThreeGrids : Type 0 where
  -- "first the lowest place never served, and if all of these were served, the one served longest ago"
  pub in-turn : places (limits (three []) (1 ∷ 1 ∷ 1 ∷ [])) (three []) ≡ 0 ∷ 2 ∷ 0 ∷ []
  pub order : (after_all (limits (three []) (1 ∷ 1 ∷ 1 ∷ [])) (three [])).order ≡ 2 ∷ 0 ∷ []
  -- both voxels of the first grid are gone, and one of the last grid's
  pub first-grid : box_d (grid_at (after_all (limits (three []) (1 ∷ 1 ∷ 1 ∷ [])) (three [])) 0) ≡ 1 ∷ 0 ∷ 0 ∷ 1 ∷ []
  pub last-grid : box_d (grid_at (after_all (limits (three []) (1 ∷ 1 ∷ 1 ∷ [])) (three [])) 2) ≡ 1 ∷ 0 ∷ 3 ∷ 1 ∷ []
  -- a refused call in the list changes nothing
  pub refused-between : places (limits (three []) (1 ∷ 0 ∷ 1 ∷ [])) (three []) ≡ 0 ∷ 2 ∷ []
  -- an order record as long as there are grids is fit
  pub longest-ago : places (limits (three []) (1 ∷ [])) (three (2 ∷ 1 ∷ 0 ∷ [])) ≡ 2 ∷ []
  pub never-served : places (limits (three []) (1 ∷ [])) (three (0 ∷ [])) ≡ 2 ∷ []
  -- its part of the marks: 22 pinned stays, 25 hurried goes first
  pub pinned : box_d (grid_at (after_all (last_marks (mark_d 22 1)) (three (0 ∷ []))) 2) ≡ 1 ∷ 1 ∷ 3 ∷ 1 ∷ []
  pub hurried : box_d (grid_at (after_all (last_marks (mark_d 25 2)) (three (0 ∷ []))) 2) ≡ 1 ∷ 3 ∷ 0 ∷ 1 ∷ []

-- ---- one voxel within 3, 3, 3: waiting, at rest, of a finished grid, and with a count too many

unfoldable pub single : ℕ → State
single status = state (new_record (sides 3 3 3) 0) (replicate 27 (pos 1)) (replicate 13 0 ++ (status ∷ replicate 13 0))

abbrev pub waiting : State
waiting = single 3

abbrev pub resting : State
resting = single 1

abbrev pub ended : State
ended = let g = resting in state (as_finished g.rec) g.dist g.status

abbrev pub overcounted : State
overcounted = let g = resting in state (count g.rec 0 0 1 (pos 0)) g.dist g.status

-- sides out of range; buffers of another length
abbrev pub sideless : State
sideless = state (new_record (sides 2 3 3) 0) [] []

abbrev pub bare : State
bare = state (new_record (sides 3 3 3) 0) [] []

-- what is answered, with no voxel marked
abbrev pub answered : ℕ → List ℕ → List State → Reply Serving
answered limit order gs = let o = office_of order gs in (serve (no_mark o) limit o).answer

-- and with the first voxel marked so
abbrev pub answered_with : ℕ → List ℕ → List State → Reply Serving
answered_with mark order gs = let o = office_of order gs in (serve (set (no_mark o) 0 mark) 1 o).answer

-- and with a mark more than there are voxels
abbrev pub answered_long : ℕ → List ℕ → List State → Reply Serving
answered_long mark order gs = let o = office_of order gs in (serve (mark ∷ no_mark o) 1 o).answer

-- each number, where those after it would be answered too
pub record Refusals : Type 0 where
  pub limit-low : answered 0 (0 ∷ 0 ∷ []) (sideless ∷ []) ≡ refused 34
  pub limit-high : answered 1001 [] (waiting ∷ []) ≡ refused 34
  pub no-grid : answered 1 [] [] ≡ refused 34
  pub many-grids : answered 1 [] (replicate 17 sideless) ≡ refused 34
  -- a side of the second grid, before the length of the first; a length of the second, before the count of the first
  pub side : answered_long 4 (0 ∷ 0 ∷ []) (bare ∷ sideless ∷ []) ≡ refused 1
  pub length : answered_with 4 (0 ∷ 0 ∷ []) (overcounted ∷ bare ∷ []) ≡ refused 2
  pub marks-length : answered_long 4 (0 ∷ 0 ∷ []) (overcounted ∷ []) ≡ refused 2
  pub unfit : answered_with 4 [] (ended ∷ overcounted ∷ []) ≡ refused 7
  -- an order record that is too long names a place twice, or one past the last grid
  pub order-long : answered_with 4 (0 ∷ 0 ∷ []) (ended ∷ []) ≡ refused 7
  pub order-twice : answered_with 4 (0 ∷ 0 ∷ []) (ended ∷ ended ∷ []) ≡ refused 7
  pub order-past : answered_with 4 (1 ∷ []) (ended ∷ []) ≡ refused 7
  pub mark : answered_with 4 [] (ended ∷ []) ≡ refused 29
  -- one finished grid stops the call, whether or not another waits
  pub finished : answered 1 [] (resting ∷ ended ∷ []) ≡ refused 8
  pub finished-beside : answered 1 [] (waiting ∷ ended ∷ []) ≡ refused 8
  -- a limit of 1,000 and 16 grids are in range
  pub quiet : answered 1000 (0 ∷ []) (replicate 16 resting) ≡ refused 35
