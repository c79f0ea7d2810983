-- Small grids on which another coarse start shows. proofs/Examples.antt proves each by computation.
use Rattle.std.specs.Prelude.{◌≡◌, true, false, cond, List, [], ◌∷◌, ◌++◌, map, ℕ, ◌/◌, eqb, replicate, set, ℤ, pos, negsuc}
use Rattle.rules.specs.declared.Sides.{Sides}
use Rattle.rules.specs.Grid.{size, voxels, is_in}
use Rattle.rules.specs.Answer.{Reply, refused, done, Outcome, outcome, buffers}
use Rattle.rules.specs.Begin.{status_at, new_record}
use Rattle.rules.specs.Status.{Progress, status_of, is_kept}
use Rattle.rules.specs.Marks.{Marked, unmarked, no_marks}
use Rattle.rules.specs.Machine.{State, open_next}
use Rattle.rules.specs.Demand.{Call, run}
use Rattle.rules.specs.Fifteen.{Pins}
use Rattle.rules.specs.Cases.{sides, start_with, carved_with, mark_at}
use Rattle.coarse.specs.Blocks.{block_distance, split_body}
use Rattle.coarse.specs.declared.CoarseStart.{CoarseStart}
use Rattle.coarse.specs.Coarse.{coarse_run, near_border, FourBuffers, four_buffers, begin_coarse}
use Rattle.coarse.specs.Promises.{coarse_state}

-- a grid of 5 with these voxels at -5, and buffers of the right lengths
unfoldable pub grid : Sides → List ℕ → List ℤ
grid s low = map (λ i. cond (is_in low i) (negsuc 4) (pos 5)) (voxels s)

unfoldable pub lent : Sides → FourBuffers
lent s =
    four_buffers (buffers (replicate (size s) (pos 0)) (replicate (size s) 0)) (buffers (replicate (size s / 8) (pos 0)) (replicate (size s / 8) 0))

unfoldable pub coarse_of : Sides → List ℕ → List ℕ → Outcome FourBuffers CoarseStart
coarse_of s low marks = begin_coarse s 1 (grid s low) marks (lent s)

-- so many coarse examinations, beside a record whose counts are 0
abbrev pub examines : Sides → ℕ → Reply CoarseStart
examines s n = done (record { next = new_record s 1; examined = n })

-- ---- the run on 4, 4, 3 blocks: 21 and 26 are negative and touch at an edge, 22 and 25 are the others of their box

abbrev pub diagonal : List ℤ
diagonal = set (set (replicate 48 (pos 5)) 21 (negsuc 4)) 26 (negsuc 4)

abbrev pub run_of : Marked → Progress
run_of m = coarse_run (sides 4 4 3) m diagonal

abbrev pub pinned_at : ℕ → Marked
pinned_at j = record { pinned = eqb j; hurried = λ i. false }

-- the four blocks of the box
abbrev pub box_of : List ℕ → List ℕ
box_of status = map (status_of status) (21 ∷ 22 ∷ 25 ∷ 26 ∷ [])

pub record RunOfBlocks : Type 0 where
  -- both others go
  pub examined : (run_of unmarked).examined ≡ 2
  pub kept : box_of (run_of unmarked).status ≡ 1 ∷ 0 ∷ 0 ∷ 1 ∷ []
  -- a pinned one is neither examined nor lost, and beyond the box a pin holds nothing
  pub pinned-unexamined : (run_of (pinned_at 22)).examined ≡ 1
  pub pinned-kept : box_of (run_of (pinned_at 22)).status ≡ 1 ∷ 1 ∷ 0 ∷ 1 ∷ []
  pub pinned-beyond : map (status_of (run_of (pinned_at 23)).status) (22 ∷ 23 ∷ []) ≡ 0 ∷ 0 ∷ []
  -- the distance of a block of 6, 6, 6, whose second voxel has the least
  pub least : block_distance (sides 6 6 6) (pos 3 ∷ negsuc 4 ∷ pos 5 ∷ []) 0 ≡ negsuc 4

-- ---- the same blocks in the call: 8, 8, 6, two voxels of them at -5; (4, 2, 2) is pinned, outside the box of voxels, and (5, 2, 2) beside it hurried

abbrev pub slab : Sides
slab = sides 8 8 6

unfoldable pub two_blocks : Outcome FourBuffers CoarseStart
two_blocks = coarse_of slab (155 ∷ 164 ∷ []) (set (mark_at slab 148 1) 149 2)

pub record TwoBlocks : Type 0 where
  -- one examination, beside a record whose counts are 0: the pinned voxel pins its block, and the hurry waits
  pub answer : two_blocks.answer ≡ examines slab 1
  -- once the blocks are split, the hurried voxel is pending, the pinned one and those of S are not
  pub statuses :
      let l = two_blocks.lent in
      box_of l.blocks.status ++ map (status_of l.voxels.status) (146 ∷ 147 ∷ 148 ∷ 149 ∷ 155 ∷ 156 ∷ 163 ∷ 164 ∷ [])
      ≡ 1 ∷ 1 ∷ 0 ∷ 1 ∷ 3 ∷ 3 ∷ 1 ∷ 3 ∷ 1 ∷ 3 ∷ 0 ∷ 1 ∷ []

-- ---- the split, of 8, 8, 8 with four kept blocks around (4, 4, 4), whose six face neighbours are kept

abbrev pub around_it : List ℕ
around_it = set (set (set (set (replicate 64 0) 26 1) 38 1) 41 1) 42 1

abbrev pub split_at : Marked → ℕ → ℕ
split_at m i = status_at (sides 8 8 8) m (293 ∷ []) (split_body (sides 8 8 8) around_it) i

pub record SplitBlocks : Type 0 where
  -- that voxel is pending where it is hurried alone; one with a face neighbour not kept, unless it is pinned; one of S never
  pub unmarked : map (split_at unmarked) (292 ∷ 293 ∷ 301 ∷ 300 ∷ 219 ∷ []) ≡ 1 ∷ 1 ∷ 3 ∷ 3 ∷ 0 ∷ []
  pub hurried : split_at (record { pinned = λ i. false; hurried = eqb 292 }) 292 ≡ 3
  pub pinned : split_at (pinned_at 301) 301 ≡ 1

-- ---- number 31

abbrev pub answer_of : Sides → List ℕ → Reply CoarseStart
answer_of s low = (coarse_of s low (no_marks s)).answer

pub record CoarseNumbers : Type 0 where
  -- a side of 6 will do, with coordinates of 2 and 3
  pub six : answer_of (sides 6 6 6) (86 ∷ 129 ∷ []) ≡ examines (sides 6 6 6) 0
  pub odd : answer_of (sides 7 6 6) (100 ∷ []) ≡ refused 31
  pub low : answer_of (sides 6 6 4) (50 ∷ []) ≡ refused 31
  -- one negative voxel apart from S, (4, 1, 1)
  pub apart : answer_of (sides 6 6 6) (46 ∷ 128 ∷ 129 ∷ []) ≡ refused 31
  -- coordinates 1, 2, the side less 3 and the side less 2, along each axis of 8, 10, 6
  pub along-x : map (near_border (sides 8 10 6)) (193 ∷ 194 ∷ 197 ∷ 198 ∷ []) ≡ true ∷ false ∷ false ∷ true ∷ []
  pub along-y : map (near_border (sides 8 10 6)) (171 ∷ 179 ∷ 219 ∷ 227 ∷ []) ≡ true ∷ false ∷ false ∷ true ∷ []
  pub along-z : map (near_border (sides 8 10 6)) (115 ∷ 195 ∷ 275 ∷ 355 ∷ []) ≡ true ∷ false ∷ false ∷ true ∷ []
  -- of odd sides the further buffers have n / 8 places too, rounded down; 2, 3 and 4 come before 31
  pub length-first :
      (begin_coarse (sides 3 3 3) 1 (grid (sides 3 3 3) []) (no_marks (sides 3 3 3)) (four_buffers (lent (sides 3 3 3)).voxels (buffers [] []))).answer
      ≡ refused 2
  pub border-first : answer_of (sides 3 3 3) (0 ∷ []) ≡ refused 3
  pub none_first : answer_of (sides 3 3 3) [] ≡ refused 4
  -- a refusal writes nothing
  pub untouched : coarse_of (sides 3 3 3) (13 ∷ []) (no_marks (sides 3 3 3)) ≡ outcome (refused 31) (lent (sides 3 3 3))

-- ---- 6, 6, 6: S is (2, 2, 2), and (3, 3, 3) is pinned, outside the box of voxels and in the block that is kept

abbrev pub small : Sides
small = sides 6 6 6

abbrev pub pin : List ℕ
pin = mark_at small 129 1

unfoldable pub plain : State
plain = start_with pin small 1 (grid small (86 ∷ []))

unfoldable pub coarse : State
coarse = coarse_state (coarse_of small (86 ∷ []) pin).lent (record { next = new_record small 1; examined = 0 })

-- with pins the bodies at the end may differ: after each start a carve leads to 15
pub record PinOutsideTheBox : Type 0 where
  pub plain-ends : (open_next pin (carved_with pin 100 plain)).answer ≡ refused 15
  pub coarse-ends : (open_next pin (carved_with pin 100 coarse)).answer ≡ refused 15
  -- whatever the calls, the plain start never has the pinned voxel, and the coarse one keeps it while it is pinned
  pub plain-gone : (calls : List Call) → is_kept (run calls plain).end.status 129 ≡ false
  pub coarse-kept : (calls : List Call) → Pins pin coarse calls → is_kept (run calls coarse).end.status 129 ≡ true
