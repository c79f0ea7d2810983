-- Document 02's CR 10, "Coarse run first": begin on blocks of two by two by two voxels, whose kept ones, split again, are the starting body.
use Rattle.std.specs.Prelude.{Bool, not, ◌&&◌, ◌||◌, List, [], ◌∷◌, ℕ, ◌+◌, ◌*◌, ◌/◌, ◌%◌, ltb, eqb, ℤ, length}
use Rattle.cells.specs.Groups.{any, filter}
use Rattle.rules.specs.declared.Sides.{Sides}
use Rattle.rules.specs.declared.Record.{Record}
use Rattle.rules.specs.Grid.{fit_sides, size, voxel, voxels, on_border, measured_negative, value_at}
use Rattle.rules.specs.Value.{stray}
use Rattle.rules.specs.Fill.{filled}
use Rattle.rules.specs.Marks.{Marked, marked, stray_mark, wrong_marks}
use Rattle.rules.specs.Checks.{Check, ◌when◌, unless}
use Rattle.rules.specs.Answer.{Reply, refused, done, Outcome, outcome, untouched, Buffers, buffers}
use Rattle.rules.specs.Begin.{inside, worked, in_box, start_status, new_record}
use Rattle.rules.specs.Status.{Progress, carving}
use Rattle.rules.specs.Machine.{is_inside, may_go, sooner}
use Rattle.coarse.specs.declared.CoarseStart.{CoarseStart}
use Rattle.coarse.specs.Blocks.{halved, block_distances, block_marks, split_body}

-- ---- the coarse run, over a grid of blocks with these distances and marks, by the rules of begin and carve

-- "Negative blocks are its inside"
unfoldable pub negative_blocks : Sides → List ℤ → List ℕ
negative_blocks h dist = filter (is_inside dist) (voxels h)

-- "the coarse run starts at step 4": kept is the smallest box of blocks that holds them
unfoldable pub block_box : Sides → List ℤ → ℕ → Bool
block_box h dist = in_box h (negative_blocks h dist)

unfoldable pub first_status : Sides → Marked → List ℤ → List ℕ
first_status h m dist = start_status h m (negative_blocks h dist) (block_box h dist)

-- "and carves to its end with no opening": 27 examinations for each block are enough (Promises.antt, ended)
unfoldable pub coarse_run : Sides → Marked → List ℤ → Progress
coarse_run h m dist = carving h (may_go m dist) (sooner m dist) (27 * size h) (first_status h m dist)

-- ---- number 31: "an odd side, a side under 6, or a measured negative voxel that has a coordinate below 2 or above that side less 3"

abbrev pub unfit_side : ℕ → Bool
unfit_side n = eqb (n % 2) 1 || ltb n 6

abbrev pub unfit_sides : Sides → Bool
unfit_sides s = unfit_side s.a || (unfit_side s.b || unfit_side s.c)

-- x is above the side less 3 where x + 3 is above the side
abbrev pub near_end : ℕ → ℕ → Bool
near_end side x = ltb x 2 || ltb side (x + 3)

unfoldable pub near_border : Sides → ℕ → Bool
near_border s i = near_end s.a (voxel s i).x || (near_end s.b (voxel s i).y || near_end s.c (voxel s i).z)

unfoldable pub unfit_coarse : Sides → List ℤ → Bool
unfit_coarse s values = unfit_sides s || any (λ i. measured_negative (value_at values i) && near_border s i) (voxels s)

-- ---- the call

-- the two buffers of begin, and "two further lent buffers of n / 8 places, rounded down": block distances and status
pub record FourBuffers : Type 0 where
  pub voxels : Buffers
  pub blocks : Buffers

abbrev pub four_buffers : Buffers → Buffers → FourBuffers
four_buffers v b = record { voxels = v; blocks = b }

-- number 2: a buffer of another length than n, or a further one of another length than n / 8
unfoldable pub wrong_lengths : Sides → List ℤ → FourBuffers → Bool
wrong_lengths s values l =
    not (
    eqb (length values) (size s) && (eqb (length l.voxels.dist) (size s) && (eqb (length l.voxels.status) (size s)
    && (eqb (length l.blocks.dist) (size s / 8) && eqb (length l.blocks.status) (size s / 8))))
    )

abbrev pub coarse_checks : Sides → List ℤ → List ℕ → FourBuffers → List Check
coarse_checks s values marks l =
    1 when not (fit_sides s)
    ∷ 2 when (wrong_lengths s values l || wrong_marks s marks)
    ∷ 28 when any stray values
    ∷ 29 when stray_mark marks
    ∷ 3 when any (λ i. on_border s i && measured_negative (value_at values i)) (voxels s)
    ∷ 4 when not (any (λ i. measured_negative (value_at values i)) (voxels s))
    ∷ 31 when unfit_coarse s values
    ∷ []

-- steps 1 to 3 are begin's; the kept blocks, split again, are the starting body, with pending as begin has it; counts are 0, and the Euler number 1
unfoldable pub coarse_on : Sides → ℕ → List ℤ → Marked → Outcome FourBuffers CoarseStart
coarse_on s T values m =
    let S = inside s values in
    let dist = worked s values S in
    let blocks = block_distances s dist in
    let run = coarse_run (halved s) (block_marks s m) blocks in
    outcome (done (record { next = new_record s T; examined = run.examined }))
    (four_buffers (buffers dist (start_status s m S (split_body s run.status))) (buffers blocks run.status))

unfoldable pub begin_coarse : Sides → ℕ → List ℤ → List ℕ → FourBuffers → Outcome FourBuffers CoarseStart
begin_coarse s T values marks l = unless (coarse_checks s values marks l) (untouched l) (coarse_on s T (filled s values) (marked marks))
