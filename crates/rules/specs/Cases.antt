-- Document 01, "What the second supplier may hold us to": the worked cases of begin and the machine, and small ones that notice what those
-- leave open. proofs/Cases.antt proves each by computation, the crate cases case C, the arc and the hollow; it gathers all of document 01's into one list.
use Rattle.std.specs.Prelude.{◌≡◌, true, false, cond, List, [], ◌∷◌, ◌++◌, map, ℕ, ◌+◌, max, length, get_or, set, replicate, ℤ, pos, negsuc}
use Rattle.rules.specs.declared.Sides.{Sides}
use Rattle.rules.specs.declared.Record.{Record}
use Rattle.rules.specs.Grid.{range, missing, voxel, on_border, gap, distance_at}
use Rattle.rules.specs.Fill.{filled}
use Rattle.rules.specs.Marks.{no_marks}
use Rattle.rules.specs.declared.Carving.{Carving}
use Rattle.rules.specs.declared.Opening.{Opening}
use Rattle.rules.specs.Answer.{Reply, refused, done, Outcome, Buffers, Removal}
use Rattle.rules.specs.Begin.{is_in, inside, begin, new_record}
use Rattle.rules.specs.Status.{status_of, any_pending}
use Rattle.rules.specs.Machine.{State, state, after, count, as_finished, carve, take, open_next, finish}
use Rattle.rules.specs.PinFirst.{marked_before, begin_by}

abbrev pub sides : ℕ → ℕ → ℕ → Sides
sides a b c = record { a = a; b = b; c = c }

-- ---- the calls on a case: begin with buffers of the right length, carve up to so many examinations, finish

unfoldable pub start_with : List ℕ → Sides → ℕ → List ℤ → State
start_with marks s T values =
    after (λ r. r) (state (new_record s T) [] []) (begin s T values marks (replicate (length values) (pos 0)) (replicate (length values) 0))

unfoldable pub carved_with : List ℕ → ℕ → State → State
carved_with marks limit g = after (λ r. r.next) g (carve marks limit g)

-- the same, and take and open, with no voxel marked

unfoldable pub start : Sides → ℕ → List ℤ → State
start s T values = start_with (no_marks s) s T values

unfoldable pub carved_to : ℕ → State → State
carved_to limit g = carved_with (no_marks g.rec.sides) limit g

unfoldable pub plain_carve : ℕ → State → Outcome Buffers Carving
plain_carve limit g = carve (no_marks g.rec.sides) limit g

unfoldable pub plain_take : ℕ → State → Outcome Buffers Removal
plain_take i g = take (no_marks g.rec.sides) i g

unfoldable pub plain_open : State → Outcome Buffers Opening
plain_open g = open_next (no_marks g.rec.sides) g

unfoldable pub ended : State → State
ended g = after (λ r. r) g (finish g)

-- ---- A: 3, 3, 3, all 5, centre -5

unfoldable pub case_a : State
case_a = start (sides 3 3 3) 0 (replicate 13 (pos 5) ++ (negsuc 4 ∷ replicate 13 (pos 5)))

pub record CaseA : Type 0 where
  -- faces 5, edges 7, corners 8
  pub worked :
      case_a.dist
      ≡ map pos (8 ∷ 7 ∷ 8 ∷ 7 ∷ 5 ∷ 7 ∷ 8 ∷ 7 ∷ 8 ∷ 7 ∷ 5 ∷ 7 ∷ 5 ∷ [])
      ++ (negsuc 4 ∷ map pos (5 ∷ 7 ∷ 5 ∷ 7 ∷ 8 ∷ 7 ∷ 8 ∷ 7 ∷ 5 ∷ 7 ∷ 8 ∷ 7 ∷ 8 ∷ []))
  pub nothing-pending : any_pending (sides 3 3 3) case_a.status ≡ false

-- ---- C: 5, 5, 3, all 4; at z = 1 the eight voxels touching (2, 2) are -4

-- 5, 5, 3, all 4 but for the three inner rows of the layer at z = 1
unfoldable pub plate : List ℤ → List ℤ → List ℤ → List ℤ
plate p q r = let o = pos 4 in replicate 31 o ++ p ++ (o ∷ o ∷ []) ++ q ++ (o ∷ o ∷ []) ++ r ++ replicate 31 o

unfoldable pub values_c : List ℤ
values_c = let n = negsuc 3 in plate (n ∷ n ∷ n ∷ []) (n ∷ pos 4 ∷ n ∷ []) (n ∷ n ∷ n ∷ [])

unfoldable pub case_c : ℕ → State
case_c T = start (sides 5 5 3) T values_c

-- with T openings allowed
pub record CarvesC (begun : ℕ → State) : Type 0 where
  pub one-examination : (carved_to 1000 (begun 0)).rec ≡ count (begun 0).rec 1 0 0 (pos 0)
  pub middle-filled : distance_at (ended (carved_to 1000 (begun 0))).dist 37 ≡ negsuc 3
  -- open answers k = 1, m = 2 and the low z face; the Euler number is 0
  pub opening :
      (plain_open (carved_to 1000 (begun 1))).answer
      ≡ done (
      record {
        index = 37;
        k = 1;
        m = 2;
        face = 4;
        next = record { sides = sides 5 5 3; allowed = 1; openings = 1; removals = 1; examinations = 1; euler = pos 0; finished = false };
      }
      )
  -- no opening is allowed; nothing is left to open; the middle does not pass
  pub none_allowed : (plain_open (carved_to 1000 (begun 0))).answer ≡ refused 14
  pub none_left : (plain_open (carved_to 9 (after (λ r. r.next) (begun 2) (plain_open (carved_to 9 (begun 2)))))).answer ≡ refused 15
  pub not_taken : (plain_take 37 (begun 0)).answer ≡ refused 12

abbrev pub CaseC : Type 0
CaseC = CarvesC case_c

-- ---- D: 4, 4, 3, all 6; (1, 1, 1) and (2, 2, 1) are -6; T = 0

unfoldable pub layer_d : List ℤ
layer_d = replicate 5 (pos 6) ++ (negsuc 5 ∷ pos 6 ∷ pos 6 ∷ pos 6 ∷ pos 6 ∷ negsuc 5 ∷ []) ++ replicate 5 (pos 6)

unfoldable pub values_d : List ℤ
values_d = replicate 16 (pos 6) ++ layer_d ++ replicate 16 (pos 6)

unfoldable pub case_d : State
case_d = start (sides 4 4 3) 0 values_d

-- the status of the four voxels of the box
abbrev pub box_d : State → List ℕ
box_d g = map (status_of g.status) (21 ∷ 22 ∷ 25 ∷ 26 ∷ [])

pub record CaseD : Type 0 where
  -- gone: 22, then 25
  pub before : box_d case_d ≡ 1 ∷ 3 ∷ 3 ∷ 1 ∷ []
  pub first : box_d (carved_to 1 case_d) ≡ 1 ∷ 0 ∷ 3 ∷ 1 ∷ []
  pub second : box_d (carved_to 2 case_d) ≡ 1 ∷ 0 ∷ 0 ∷ 1 ∷ []

-- ---- the arc: C with the voxel at (1, 2) at 3. The middle fails; then that voxel goes and wakes the middle, which now passes.

unfoldable pub values_arc : List ℤ
values_arc = let n = negsuc 3 in plate (n ∷ n ∷ n ∷ []) (pos 3 ∷ pos 4 ∷ n ∷ []) (n ∷ n ∷ n ∷ [])

unfoldable pub arc : State
arc = start (sides 5 5 3) 0 values_arc

pub record CarvesArc (begun : State) : Type 0 where
  pub first : map (status_of (carved_to 1 begun).status) (36 ∷ 37 ∷ []) ≡ 3 ∷ 1 ∷ []
  pub second : map (status_of (carved_to 2 begun).status) (36 ∷ 37 ∷ []) ≡ 0 ∷ 3 ∷ []
  pub end : (carved_to 1000 begun).rec ≡ count begun.rec 3 2 0 (pos 0)

abbrev pub Arc : Type 0
Arc = CarvesArc arc

-- ---- a bar that no begin makes: three voxels in a row, the middle one pending. It has k = 2, m = 1, and stays.

unfoldable pub bar : List ℤ → State
bar dist =
    state (new_record (sides 5 3 3) 1) dist (replicate 21 0 ++ (1 ∷ 3 ∷ 1 ∷ []) ++ replicate 21 0)

pub record Bar : Type 0 where
  pub stays : (carved_to 9 (bar (replicate 45 (pos 1)))).rec ≡ count (new_record (sides 5 3 3) 1) 1 0 0 (pos 0)
  pub pending-refused : (plain_open (bar (replicate 45 (pos 1)))).answer ≡ refused 13
  pub not-finished : (finish (bar (replicate 45 (pos 1)))).answer ≡ refused 13
  -- the greatest distance is opened, though the middle failed first; and of equals the smallest index
  pub farthest-opened :
      map (status_of (plain_open (carved_to 9 (bar (replicate 23 (pos 1) ++ (pos 2 ∷ replicate 21 (pos 1)))))).lent.status) (21 ∷ 22 ∷ 23 ∷ []) ≡ 1 ∷ 3 ∷ 0 ∷ []
  pub earliest-opened : map (status_of (plain_open (carved_to 9 (bar (replicate 45 (pos 1))))).lent.status) (21 ∷ 22 ∷ 23 ∷ []) ≡ 0 ∷ 3 ∷ 1 ∷ []

-- ---- two equal groups, of which the later is discarded: 5, 3, 3, all 5, but -5 in the first and the last of the three inner voxels

unfoldable pub values_two : List ℤ
values_two = set (set (replicate 45 (pos 5)) 21 (negsuc 4)) 23 (negsuc 4)

unfoldable pub two_groups : State
two_groups = start (sides 5 3 3) 0 values_two

pub record Discarded : Type 0 where
  -- S holds the smallest index
  pub first : map (is_in (inside (sides 5 3 3) values_two)) (21 ∷ 23 ∷ []) ≡ true ∷ false ∷ []
  -- the discarded voxel gets M + 2, and the one behind it M + 3: d is measured to S alone
  pub worked : map (distance_at two_groups.dist) (21 ∷ 22 ∷ 23 ∷ 24 ∷ []) ≡ negsuc 4 ∷ pos 5 ∷ pos 7 ∷ pos 8 ∷ []
  pub gone : map (status_of two_groups.status) (21 ∷ 22 ∷ 23 ∷ []) ≡ 1 ∷ 0 ∷ 0 ∷ []

-- ---- the numbers of a state, in their order

-- case D after its record was changed
abbrev pub with : (Record → Record) → State
with f = state (f case_d.rec) case_d.dist case_d.status

pub record Numbers : Type 0 where
  pub side : (plain_carve 1 (with (λ r. new_record (sides 2 4 3) 0))).answer ≡ refused 1
  pub length : (plain_carve 1 (with (λ r. new_record (sides 4 3 3) 0))).answer ≡ refused 2
  pub openings : (plain_carve 1 (with (λ r. count r 0 0 1 (pos 0)))).answer ≡ refused 7
  pub removals : (plain_carve 1 (with (λ r. count r 0 49 0 (pos 0)))).answer ≡ refused 7
  pub examinations : (plain_carve 1 (with (λ r. count r 1297 0 0 (pos 0)))).answer ≡ refused 7
  pub euler : (plain_carve 1 (with (λ r. count r 0 0 0 (pos 384)))).answer ≡ refused 7
  pub finished : (plain_carve 1 (ended (carved_to 2 case_d))).answer ≡ refused 8
  pub index : (plain_take 48 case_d).answer ≡ refused 5
  pub gone : (plain_take 0 case_d).answer ≡ refused 10
  pub inside : (plain_take 21 case_d).answer ≡ refused 11
  -- the first of two: unfit and finished, finished and no such voxel, pending with no opening left, no opening left and no voxel to open
  pub unfit-first : (plain_carve 1 (with (λ r. as_finished (count r 0 0 1 (pos 0))))).answer ≡ refused 7
  pub finished-first : (plain_take 48 (with as_finished)).answer ≡ refused 8
  pub pending-first : (plain_open case_d).answer ≡ refused 13
  pub allowed-first : (plain_open (carved_to 9 case_d)).answer ≡ refused 14
  -- a count at its limit is fit
  pub removals-of-n : (plain_carve 0 (with (λ r. count r 0 48 0 (pos 0)))).answer
      ≡ done (record { examined = 0; removed = 0; pending = true; face = 6; next = count (count case_d.rec 0 48 0 (pos 0)) 0 0 0 (pos 0) })

-- ---- document 02, CR 5: number 28 in its order, and the ends of the range

-- 3, 3, 3: a corner, the centre, and all others
unfoldable pub cube : ℤ → ℤ → ℤ → List ℤ
cube corner centre others = corner ∷ replicate 12 others ++ (centre ∷ replicate 13 others)

-- begin with buffers for 27 voxels
abbrev pub answered : Sides → List ℤ → Reply Record
answered s values = (begin s 0 values (no_marks s) (replicate 27 (pos 0)) (replicate 27 0)).answer

pub record LongTunnels : Type 0 where
  pub too-high : answered (sides 3 3 3) (cube (pos 1000000001) (negsuc 4) (pos 5)) ≡ refused 28
  pub too-low : answered (sides 3 3 3) (cube (pos 5) (negsuc 1000000000) (pos 5)) ≡ refused 28
  -- -2,147,483,647, which is not the missing mark
  pub lowest : answered (sides 3 3 3) (cube (pos 5) (negsuc 2147483646) (pos 5)) ≡ refused 28
  -- after 1 and 2, before 3 and 4
  pub side-first : answered (sides 2 3 3) (cube (pos 1000000001) (negsuc 4) (pos 5)) ≡ refused 1
  pub length-first : answered (sides 3 4 3) (cube (pos 1000000001) (negsuc 4) (pos 5)) ≡ refused 2
  pub border-after : answered (sides 3 3 3) (cube (negsuc 1000000000) (negsuc 4) (pos 5)) ≡ refused 28
  pub none_after : answered (sides 3 3 3) (cube (pos 1000000001) (pos 5) (pos 5)) ≡ refused 28
  -- -1,000,000,000, 1,000,000,000 and the missing mark are taken: a face of the body stays at 1,000,000,000, which is M, and an edge or a corner
  -- has 2 or 3 more
  pub taken :
      (start (sides 3 3 3) 0 (cube missing (negsuc 999999999) (pos 1000000000))).dist
      ≡ map (λ d. pos (1000000000 + d)) (3 ∷ 2 ∷ 3 ∷ 2 ∷ 0 ∷ 2 ∷ 3 ∷ 2 ∷ 3 ∷ 2 ∷ 0 ∷ 2 ∷ 0 ∷ [])
      ++ (negsuc 999999999 ∷ map (λ d. pos (1000000000 + d)) (0 ∷ 2 ∷ 0 ∷ 2 ∷ 3 ∷ 2 ∷ 3 ∷ 2 ∷ 0 ∷ 2 ∷ 3 ∷ 2 ∷ 3 ∷ []))

-- ---- document 02's CR 6: gaps behind the face

-- 5, 5, 5, all 4; the middle, 62, is missing, and five voxels that share a face with it are -4. The sixth is 63; 68 touches it by an edge.
unfoldable pub wall : ℤ → ℤ → List ℤ
wall sixth edge =
    let o = pos 4 in
    let n = negsuc 3 in
    replicate 37 o ++ (n ∷ replicate 19 o) ++ (n ∷ o ∷ o ∷ o ∷ n ∷ missing ∷ sixth ∷ o ∷ o ∷ o ∷ n ∷ edge ∷ replicate 18 o) ++ (n ∷ replicate 37 o)

unfoldable pub walled : ℤ → ℤ → State
walled sixth edge = start (sides 5 5 5) 0 (wall sixth edge)

-- the worked distance and the status of the middle
abbrev pub middle_is : State → ℤ → ℕ → Type 0
middle_is g d t = (distance_at g.dist 62 ≡ d) × (status_of g.status 62 ≡ t)

pub record BehindTheFace : Type 0 where
  -- a gap of one voxel inside a wall counts as measured with value -1, is one of S, and cannot be taken
  pub inside : middle_is (walled (negsuc 3) (pos 4)) (negsuc 0) 1
  pub held : (plain_take 62 (walled (negsuc 3) (pos 4))).answer ≡ refused 11
  -- with one face neighbour at 0 it is a missing voxel beside S as ever, at M, and pending
  pub open-face : middle_is (walled (pos 0) (pos 4)) (pos 4) 3
  -- a missing voxel that only touches it is another gap
  pub two-gaps : middle_is (walled (negsuc 3) missing) (negsuc 0) 1
  -- a gap with voxels on the border is none, though every other face neighbour is negative
  pub border :
      (start (sides 3 3 3) 0 (cube missing (negsuc 4) missing)).dist
      ≡ map pos (4 ∷ 3 ∷ 4 ∷ 3 ∷ 1 ∷ 3 ∷ 4 ∷ 3 ∷ 4 ∷ 3 ∷ 1 ∷ 3 ∷ 1 ∷ [])
      ++ (negsuc 4 ∷ map pos (1 ∷ 3 ∷ 1 ∷ 3 ∷ 4 ∷ 3 ∷ 4 ∷ 3 ∷ 1 ∷ 3 ∷ 4 ∷ 3 ∷ 4 ∷ []))

-- 7, 7, 7: around the middle, 171, which is -4, a shell of missing voxels, around that one of -4, and the border 4
unfoldable pub hollow : List ℤ
hollow =
    map (λ i. let v = voxel (sides 7 7 7) i in
    get_or (negsuc 3 ∷ missing ∷ negsuc 3 ∷ []) (max (gap v.x 3) (max (gap v.y 3) (gap v.z 3))) (pos 4)) (range 0 343)

-- two groups of negative voxels, joined by a fill
pub record JoinedByFill : Type 0 where
  pub apart : is_in (inside (sides 7 7 7) hollow) 171 ≡ false
  pub joined : is_in (inside (sides 7 7 7) (filled (sides 7 7 7) hollow)) 171 ≡ true

-- ---- document 02's CR 7: pins and hurries

-- one voxel marked
unfoldable pub mark_at : Sides → ℕ → ℕ → List ℕ
mark_at s i mark = set (no_marks s) i mark

-- case D with one voxel marked
unfoldable pub mark_d : ℕ → ℕ → List ℕ
mark_d i mark = mark_at (sides 4 4 3) i mark

unfoldable pub begun_d : ℕ → ℕ → State
begun_d i mark = start_with (mark_d i mark) (sides 4 4 3) 0 values_d

-- 5, 5, 5: the middle, 62, is 4, and no voxel of the box that shares a face with it is gone
unfoldable pub deep : ℕ → State
deep mark = start_with (mark_at (sides 5 5 5) 62 mark) (sides 5 5 5) 0 (set (wall (negsuc 3) (pos 4)) 62 (pos 4))

-- 5, 3, 3, all 5, but 21 is -5 and all that the box has; 22 beside it has the mark 3
unfoldable pub rod : State
rod = start_with (mark_at (sides 5 3 3) 22 3) (sides 5 3 3) 0 (set (replicate 45 (pos 5)) 21 (negsuc 4))

-- the bar with all three voxels pending, the distances of the outer two given; each of these two passes
unfoldable pub bar_of : ℤ → ℤ → State
bar_of low high =
    state (new_record (sides 5 3 3) 1) (replicate 21 (pos 1) ++ (low ∷ pos 1 ∷ high ∷ []) ++ replicate 21 (pos 1))
    (replicate 21 0 ++ (3 ∷ 3 ∷ 3 ∷ []) ++ replicate 21 0)

-- the status of its voxels, and marks for the outer two
abbrev pub bar_is : List ℕ → List ℕ
bar_is status = map (status_of status) (21 ∷ 22 ∷ 23 ∷ [])

unfoldable pub mark_bar : ℕ → ℕ → List ℕ
mark_bar low high = set (mark_at (sides 5 3 3) 21 low) 23 high

pub record Pinned : Type 0 where
  -- only pinned: not pending from begin, and not made pending by a removal, of carve or of take
  pub begun : box_d (begun_d 22 1) ≡ 1 ∷ 1 ∷ 3 ∷ 1 ∷ []
  pub carved : box_d (carved_with (mark_d 22 1) 9 (begun_d 22 1)) ≡ 1 ∷ 1 ∷ 0 ∷ 1 ∷ []
  pub taken-beside : map (status_of (take (mark_d 22 1) 25 (begun_d 22 1)).lent.status) (21 ∷ 22 ∷ 25 ∷ 26 ∷ []) ≡ 1 ∷ 1 ∷ 0 ∷ 1 ∷ []
  -- a pin on a voxel of S, on one outside the box and on the border has no effect
  pub on-s : box_d (carved_with (mark_d 21 1) 9 (begun_d 21 1)) ≡ 1 ∷ 0 ∷ 0 ∷ 1 ∷ []
  pub outside-the-box : status_of rod.status 22 ≡ 0
  pub on-the-border : box_d (begun_d 0 3) ≡ 1 ∷ 3 ∷ 3 ∷ 1 ∷ []

pub record Hurried : Type 0 where
  -- pending as ever from begin, and so are the others
  pub begun : box_d (begun_d 25 2) ≡ 1 ∷ 3 ∷ 3 ∷ 1 ∷ []
  -- a voxel of S is not, and a gone one stays gone
  pub on-s : box_d (begun_d 21 2) ≡ 1 ∷ 3 ∷ 3 ∷ 1 ∷ []
  pub gone : status_of (begun_d 0 2).status 0 ≡ 0
  -- examined before the others, and before one that is farther; of two hurried ones the farther, of equals the one with the smaller index
  pub first : box_d (carved_with (mark_d 25 2) 1 (begun_d 25 2)) ≡ 1 ∷ 3 ∷ 0 ∷ 1 ∷ []
  pub before-farther : bar_is (carved_with (mark_bar 2 0) 1 (bar_of (pos 1) (pos 2))).status ≡ 0 ∷ 3 ∷ 3 ∷ []
  pub farther-of-two : bar_is (carved_with (mark_bar 2 2) 1 (bar_of (pos 1) (pos 2))).status ≡ 3 ∷ 3 ∷ 0 ∷ []
  pub earlier-of-equals : bar_is (carved_with (mark_bar 2 2) 1 (bar_of (pos 1) (pos 1))).status ≡ 0 ∷ 3 ∷ 3 ∷ []

-- CR 9: mark 3 means mark 1
pub record PinnedAndHurried : Type 0 where
  -- not pending from begin, deep inside neither, and not examined: carve takes the voxel beside it
  pub begun : box_d (begun_d 22 3) ≡ 1 ∷ 1 ∷ 3 ∷ 1 ∷ []
  pub begun-deep : status_of (deep 3).status 62 ≡ 1
  pub first : box_d (carved_with (mark_d 22 3) 1 (begun_d 22 3)) ≡ 1 ∷ 1 ∷ 0 ∷ 1 ∷ []
  pub examined : (carved_with (mark_d 22 3) 9 (begun_d 22 3)).rec.examinations ≡ 1
  pub removed : (carved_with (mark_d 22 3) 9 (begun_d 22 3)).rec.removals ≡ 1
  -- a removal beside it does not make it pending, and it is not taken
  pub taken-beside : map (status_of (take (mark_d 22 3) 25 (begun_d 22 3)).lent.status) (21 ∷ 22 ∷ 25 ∷ 26 ∷ []) ≡ 1 ∷ 1 ∷ 0 ∷ 1 ∷ []
  pub not_taken : (take (mark_d 22 3) 22 case_d).answer ≡ refused 30
  -- marked by a later call a pending voxel is examined when its distance is the greatest, and stays
  pub farther-first : bar_is (carved_with (mark_bar 3 0) 1 (bar_of (pos 1) (pos 2))).status ≡ 3 ∷ 3 ∷ 0 ∷ []
  pub stays : bar_is (carved_with (mark_bar 3 0) 1 (bar_of (pos 2) (pos 1))).status ≡ 1 ∷ 3 ∷ 3 ∷ []

-- two voxels of mark 3 at begin that carve is not lent as marks: what is kept differs from the rule before (docs/DECISIONS.md)
unfoldable pub threes_d : List ℕ
threes_d = set (mark_d 22 3) 25 3

pub record ThreesTakenOff : Type 0 where
  -- neither is pending from begin, and both stay
  pub now : box_d (carved_to 9 (start_with threes_d (sides 4 4 3) 0 values_d)) ≡ 1 ∷ 1 ∷ 1 ∷ 1 ∷ []
  -- both were pending, and went
  pub before :
      box_d (carved_to 9 (after (λ r. r) case_d (begin_by (marked_before threes_d) (sides 4 4 3) 0 values_d threes_d case_d.dist case_d.status)))
      ≡ 1 ∷ 0 ∷ 0 ∷ 1 ∷ []

-- hurried: pending from begin, deep inside too
pub record HurriedDeep : Type 0 where
  pub plain : status_of (deep 0).status 62 ≡ 1
  pub hurried : status_of (deep 2).status 62 ≡ 3
  -- hurried by a later call alone: it is not woken
  pub later : (carve (mark_at (sides 5 5 5) 62 2) 0 (deep 0)).lent.status ≡ (deep 0).status

pub record MarksLater : Type 0 where
  -- pinned by a later call: it stays pending until it is examined
  pub still-pending : box_d (carved_with (mark_d 22 1) 0 case_d) ≡ 1 ∷ 3 ∷ 3 ∷ 1 ∷ []
  pub pinned-later : box_d (carved_with (mark_d 22 1) 1 (carved_with (mark_d 25 2) 1 case_d)) ≡ 1 ∷ 1 ∷ 0 ∷ 1 ∷ []
  -- a pin taken off wakes nothing
  pub taken-off : box_d (carved_to 9 (carved_with (mark_d 22 1) 9 (begun_d 22 1))) ≡ 1 ∷ 1 ∷ 0 ∷ 1 ∷ []
  -- open passes a pinned voxel over, and takes no notice of a hurry
  pub opened-beside : bar_is (open_next (mark_at (sides 5 3 3) 21 1) (carved_to 9 (bar (replicate 45 (pos 1))))).lent.status ≡ 1 ∷ 0 ∷ 3 ∷ []
  pub hurry-unseen : bar_is (open_next (mark_at (sides 5 3 3) 22 2) (carved_to 9 (bar (replicate 45 (pos 1))))).lent.status ≡ 0 ∷ 3 ∷ 1 ∷ []
  pub all-pinned : (open_next (replicate 45 1) (carved_to 9 (bar (replicate 45 (pos 1))))).answer ≡ refused 15

-- numbers 2, 29 and 30 in their order
pub record MarkNumbers : Type 0 where
  -- 30 after 10 and 11, and before 12, which the middle of the bar would answer
  pub gone-first : (take (mark_d 0 1) 0 case_d).answer ≡ refused 10
  pub inside-first : (take (mark_d 21 1) 21 case_d).answer ≡ refused 11
  pub not_taken : (take (mark_d 22 1) 22 case_d).answer ≡ refused 30
  pub before-test : (take (mark_at (sides 5 3 3) 22 1) 22 (bar (replicate 45 (pos 1)))).answer ≡ refused 30
  -- 2 for the marks' length, after 1 and before 7; 29 after 7 and before 8
  pub side-first : (carve [] 1 (with (λ r. new_record (sides 2 4 3) 0))).answer ≡ refused 1
  pub length : (carve [] 1 case_d).answer ≡ refused 2
  pub length-first : (carve [] 1 (with (λ r. count r 0 0 1 (pos 0)))).answer ≡ refused 2
  pub unfit-first : (carve (mark_d 0 4) 1 (with (λ r. count r 0 0 1 (pos 0)))).answer ≡ refused 7
  pub stray : (carve (mark_d 0 4) 1 case_d).answer ≡ refused 29
  pub finished-after : (carve (mark_d 0 4) 1 (ended (carved_to 2 case_d))).answer ≡ refused 29
  -- in begin 29 after 28, before 3 and 4
  pub begun-length : (begin (sides 4 4 3) 0 values_d [] case_d.dist case_d.status).answer ≡ refused 2
  pub value-first : (begin (sides 4 4 3) 0 (replicate 48 (pos 1000000001)) (mark_d 0 4) case_d.dist case_d.status).answer ≡ refused 28
  pub border-after : (begin (sides 4 4 3) 0 (replicate 48 (negsuc 0)) (mark_d 0 4) case_d.dist case_d.status).answer ≡ refused 29
  pub none_after : (begin (sides 4 4 3) 0 (replicate 48 (pos 5)) (mark_d 0 4) case_d.dist case_d.status).answer ≡ refused 29

-- ---- document 02's CR 8: which side it came out by

-- 5, 5, 5: the 27 inner voxels are kept but for one, which is given; 62 in their middle is the farthest, with that status, and passes
unfoldable pub block : ℕ → ℕ → State
block gone status =
    let s = sides 5 5 5 in
    state (new_record s 1) (set (replicate 125 (pos 1)) 62 (pos 2)) (set (set (map (λ i. cond (on_border s i) 0 1) (range 0 125)) gone 0) 62 status)

-- the face that a call answers; 7 after a refusal
abbrev pub face_of : {A : Type 0} → (A → ℕ) → Reply A → ℕ
face_of face (refused n) = 7
face_of face (done a) = face a

unfoldable pub carved_face : List ℕ → ℕ → State → ℕ
carved_face marks limit g = face_of (λ a. a.face) (carve marks limit g).answer

-- the neighbours of 62 across its faces 0 to 5
abbrev pub across_faces : List ℕ
across_faces = 61 ∷ 63 ∷ 57 ∷ 67 ∷ 37 ∷ 87 ∷ []

pub record WhichSide : Type 0 where
  pub taken : map (λ gone. face_of (λ a. a.face) (plain_take 62 (block gone 1)).answer) across_faces ≡ range 0 6
  pub opened : map (λ gone. face_of (λ a. a.face) (plain_open (block gone 1)).answer) across_faces ≡ range 0 6
  pub carved : map (λ gone. carved_face (no_marks (sides 5 5 5)) 1 (block gone 3)) across_faces ≡ range 0 6
  -- of D's two removals the first comes out by high x, the last by low x
  pub first-of-two : carved_face (no_marks (sides 4 4 3)) 1 case_d ≡ 1
  pub last-of-two : carved_face (no_marks (sides 4 4 3)) 2 case_d ≡ 0
  -- no removal: no examination, nothing pending after an earlier carve, one that stays
  pub none-examined : carved_face (no_marks (sides 4 4 3)) 0 case_d ≡ 6
  pub none-pending : carved_face (no_marks (sides 4 4 3)) 9 (carved_to 2 case_d) ≡ 6
  pub none_passes : carved_face (no_marks (sides 5 5 5)) 9 (block 0 3) ≡ 6
  -- the last examined is pinned and stays; the one before it came out by high x
  pub stays-last : carved_face (mark_bar 1 0) 2 (bar_of (pos 1) (pos 2)) ≡ 1
