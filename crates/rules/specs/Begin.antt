-- Document 01, "Grid and worked distances", begin: S, M, worked distances, box and status. By document 02's CR 6 it works on the values with gaps
-- filled; its checks look at the values as they are given. By CR 7 marks say which voxels are pending besides, and which are not.
use Rattle.std.specs.Prelude.{Bool, true, false, not, cond, ◌&&◌, ◌||◌, List, [], ◌∷◌, map, ℕ, zero, suc, ◌+◌, min, max, leb, ltb, eqb, length, ℤ, pos}
use Rattle.cells.specs.Groups.{any, filter, groups}
use Rattle.rules.specs.declared.Sides.{Sides}
use Rattle.rules.specs.declared.Record.{Record}
use Rattle.rules.specs.Grid.{fit_sides, size, voxel, voxels, on_border, touch, taxicab, share_face, neighbourhood, face_positions, measured_negative}
use Rattle.rules.specs.Grid.{measured_non_negative, amount, value_at}
unfoldable pub use Rattle.rules.specs.Grid.{is_in}
use Rattle.rules.specs.Value.{stray}
use Rattle.rules.specs.Fill.{filled}
use Rattle.rules.specs.Marks.{Marked, marked, stray_mark, wrong_marks}
use Rattle.rules.specs.Checks.{Check, ◌when◌, unless}
use Rattle.rules.specs.Answer.{done, Outcome, outcome, untouched, Buffers, buffers}

unfoldable pub least : ℕ → List ℕ → ℕ
least start [] = start
least start (x ∷ xs) = min x (least start xs)

unfoldable pub greatest : ℕ → List ℕ → ℕ
greatest start [] = start
greatest start (x ∷ xs) = max x (greatest start xs)

-- ---- step 1: S is the largest group of measured negative voxels; of equal groups the one with the smallest index

unfoldable pub negatives : Sides → List ℤ → List ℕ
negatives s values = filter (λ i. measured_negative (value_at values i)) (voxels s)

-- g goes before h
unfoldable pub larger : Sides → List ℕ → List ℕ → Bool
larger s g h = ltb (length h) (length g) || (eqb (length g) (length h) && ltb (least (size s) g) (least (size s) h))

unfoldable pub largest : Sides → List (List ℕ) → List ℕ
largest s [] = []
largest s (g ∷ gs) = let h = largest s gs in cond (larger s h g) h g

unfoldable pub inside : Sides → List ℤ → List ℕ
inside s values = largest s (groups (touch s) (negatives s values))

-- ---- steps 2 and 3: M, and the worked distance of a voxel

unfoldable pub facing : Sides → List ℕ → ℕ → Bool
facing s S i = any (share_face s i) S

unfoldable pub greatest_facing : Sides → List ℤ → List ℕ → ℕ
greatest_facing s values S =
    greatest 1 (map (λ i. amount (value_at values i)) (filter (λ i. measured_non_negative (value_at values i) && facing s S i) (voxels s)))

-- d: no two voxels of the grid are as many steps apart as the sides' sum
unfoldable pub distance : Sides → List ℕ → ℕ → ℕ
distance s S i = least (s.a + s.b + s.c) (map (taxicab s i) S)

unfoldable pub worked_at : Sides → List ℤ → List ℕ → ℕ → ℕ → ℤ
worked_at s values S M i =
    cond (is_in S i || (measured_non_negative (value_at values i) && facing s S i)) (value_at values i)
    (pos (cond (facing s S i) M (M + distance s S i)))

unfoldable pub worked : Sides → List ℤ → List ℕ → List ℤ
worked s values S = let M = greatest_facing s values S in map (worked_at s values S M) (voxels s)

-- ---- step 4: the smallest box that holds S, and what is pending

abbrev pub between : ℕ → List ℕ → ℕ → Bool
between side ps p = leb (least side ps) p && leb p (greatest 0 ps)

unfoldable pub in_box : Sides → List ℕ → ℕ → Bool
in_box s S i =
    between s.a (map (λ j. (voxel s j).x) S) (voxel s i).x
    && (between s.b (map (λ j. (voxel s j).y) S) (voxel s i).y && between s.c (map (λ j. (voxel s j).z) S) (voxel s i).z)

-- a face neighbour is not kept
unfoldable pub exposed : Sides → (ℕ → Bool) → ℕ → Bool
exposed s kept i = any (λ p. not (neighbourhood s kept i p)) face_positions

-- of the voxels outside S the hurried ones are pending, pinned or not (by CR 9 no mark asks for both), and those with a face neighbour not kept that
-- are not pinned
unfoldable pub waits_first : Sides → Marked → (ℕ → Bool) → ℕ → Bool
waits_first s m kept i = m.hurried i || (not (m.pinned i) && exposed s kept i)

-- 0 gone, 1 kept, 3 kept and pending, of any body to start from
unfoldable pub status_at : Sides → Marked → List ℕ → (ℕ → Bool) → ℕ → ℕ
status_at s m S kept i = cond (kept i) (cond (not (is_in S i) && waits_first s m kept i) 3 1) 0

unfoldable pub start_status : Sides → Marked → List ℕ → (ℕ → Bool) → List ℕ
start_status s m S kept = map (status_at s m S kept) (voxels s)

-- ---- the call

abbrev pub new_record : Sides → ℕ → Record
new_record s T = record { sides = s; allowed = T; openings = 0; removals = 0; examinations = 0; euler = pos 1; finished = false }

abbrev pub begin_checks : Sides → List ℤ → List ℕ → List ℤ → List ℕ → List Check
begin_checks s values marks dist status =
    1 when not (fit_sides s)
    ∷ 2 when (not (eqb (length values) (size s) && (eqb (length dist) (size s) && eqb (length status) (size s))) || wrong_marks s marks)
    ∷ 28 when any stray values
    ∷ 29 when stray_mark marks
    ∷ 3 when any (λ i. on_border s i && measured_negative (value_at values i)) (voxels s)
    ∷ 4 when not (any (λ i. measured_negative (value_at values i)) (voxels s))
    ∷ []

-- steps 1 to 4
unfoldable pub begun_on : Sides → ℕ → List ℤ → Marked → Outcome Buffers Record
begun_on s T values m = let S = inside s values in outcome (done (new_record s T)) (buffers (worked s values S) (start_status s m S (in_box s S)))

unfoldable pub begun : Sides → ℕ → List ℤ → Marked → Outcome Buffers Record
begun s T values m = begun_on s T (filled s values) m

unfoldable pub begin : Sides → ℕ → List ℤ → List ℕ → List ℤ → List ℕ → Outcome Buffers Record
begin s T values marks dist status = unless (begin_checks s values marks dist status) (untouched (buffers dist status)) (begun s T values (marked marks))
