-- Document 02's CR 12: what a trainer may rely on, and values to hold an instrument against. proofs/Course.antt and proofs/Starts.antt prove it.
use Rattle.std.specs.Prelude.{◌≡◌, ℕ, suc, ◌+◌, ◌*◌, ◌/◌, ◌%◌, ◌^◌, ◌<◌, ◌≤◌, true, false, ◌⊎◌, List, [], ◌∷◌, ◌++◌, map, length, replicate, ℤ, pos, negsuc, unsigned_abs}
use Rattle.rules.specs.declared.Sides.{Sides}
use Rattle.rules.specs.declared.Record.{Record}
use Rattle.rules.specs.Value.{is_missing}
use Rattle.rules.specs.Grid.{size, on_border, value_at}
use Rattle.rules.specs.Marks.{stray_mark, no_marks}
use Rattle.rules.specs.Fit.{Lent}
use Rattle.rules.specs.Answer.{Reply, refused, done, buffers}
use Rattle.rules.specs.Begin.{new_record, begin}
use Rattle.rules.specs.Cases.{sides}
use Rattle.coarse.specs.declared.CoarseStart.{CoarseStart}
use Rattle.coarse.specs.Coarse.{four_buffers, begin_coarse}
use Rattle.practice.specs.Practice.{s_after, mixed, practised, practice}

-- ---- the values

-- the s of index i is the seed and i + 1 times hex 9E3779B9, modulo 2^32: so any voxel can be reckoned by itself
abbrev pub SOfIndex : Type 0
SOfIndex = (seed i : ℕ) → s_after seed (suc i) ≡ (seed + (i + 1) * 0x9E3779B9) % 2 ^ 32

-- measured, and from -1,000 to 1,000
pub record Small (v : ℤ) : Type 0 where
  pub measured : is_missing v ≡ false
  pub size : unsigned_abs v ≤ 1000

pub record SmallValues : Type 0 where
  pub each : (s : Sides) (seed i : ℕ) → i < size s → Small (value_at (practised s seed) i)
  pub border : (s : Sides) (seed i : ℕ) → i < size s → on_border s i ≡ true → value_at (practised s seed) i ≡ pos 1000

-- ---- starts on a practice grid, where all that is lent has its length and no mark is over 3: begin answers a record or 4, so never 3 or 28

-- sides and buffers that are fit for practice, and after it for begin
pub record LentForBoth (s : Sides) (values : List ℤ) (marks : List ℕ) (dist : List ℤ) (status : List ℕ) : Type 0 where
  pub lent : Lent s dist status
  pub long : length values ≡ size s
  pub marked : length marks ≡ size s
  pub known : stray_mark marks ≡ false

abbrev pub RecordOr4 : Sides → ℕ → Reply Record → Type 0
RecordOr4 s T answer = (answer ≡ done (new_record s T)) ⊎ (answer ≡ refused 4)

abbrev pub BeginsOnPractice : Type 0
BeginsOnPractice =
    (s : Sides) (seed T : ℕ) (values : List ℤ) (marks : List ℕ) (dist : List ℤ) (status : List ℕ) → LentForBoth s values marks dist status
    → RecordOr4 s T (begin s T (practice s seed values).lent marks dist status).answer

-- begin coarse, which is lent blocks' buffers too, answers its start, or 4, or 31
abbrev pub StartOr4Or31 : Reply CoarseStart → Type 0
StartOr4Or31 answer = ((start : CoarseStart) × (answer ≡ done start)) ⊎ ((answer ≡ refused 4) ⊎ (answer ≡ refused 31))

abbrev pub CoarseOnPractice : Type 0
CoarseOnPractice =
    (s : Sides) (seed T : ℕ) (values : List ℤ) (marks : List ℕ) (dist : List ℤ) (status : List ℕ) → LentForBoth s values marks dist status
    → (block_dist : List ℤ) (block_status : List ℕ) → length block_dist ≡ size s / 8 → length block_status ≡ size s / 8
    → StartOr4Or31 (begin_coarse s T (practice s seed values).lent marks (four_buffers (buffers dist status) (buffers block_dist block_status))).answer

-- ---- values, reckoned by hand

abbrev pub cube : Sides
cube = sides 3 3 3

abbrev pub course : Sides
course = sides 4 4 3

pub record CourseValues : Type 0 where
  -- the second sum wraps
  pub first : s_after 0 1 ≡ 0x9E3779B9
  pub second : s_after 0 2 ≡ 0x3C6EF372
  -- 3, 3, 3: the centre is index 13; u is 1,400,461 times 2,001, and 761
  pub s : s_after 0 14 ≡ 0xA708A81E
  pub u : mixed 0xA708A81E ≡ 0xA7080F16
  pub all : practised cube 0 ≡ replicate 13 (pos 1000) ++ (negsuc 238 ∷ replicate 13 (pos 1000))
  pub largest-seed : value_at (practised cube 0xFFFFFFFF) 13 ≡ negsuc 239
  -- 4, 4, 3: 21, 22, 25 and 26 are the inner voxels
  pub inner :
      map (value_at (practised course 0)) (21 ∷ 22 ∷ 23 ∷ 24 ∷ 25 ∷ 26 ∷ []) ≡ pos 714 ∷ pos 846 ∷ pos 1000 ∷ pos 1000 ∷ pos 470 ∷ negsuc 216 ∷ []

-- what begin answers on a cube of this seed
abbrev pub answer_on_cube : ℕ → Reply Record
answer_on_cube seed = (begin cube 0 (practised cube seed) (no_marks cube) (replicate 27 (pos 0)) (replicate 27 0)).answer

pub record CourseAnswers : Type 0 where
  -- 1 comes before 2
  pub side : (practice (sides 2 4 3) 0 []).answer ≡ refused 1
  pub length : (practice course 0 (replicate 47 (pos 7))).answer ≡ refused 2
  -- begin on a cube: the centre is -239 from seed 0, and 730 from seed 1,000
  pub starts : answer_on_cube 0 ≡ done (new_record cube 0)
  pub none-negative : answer_on_cube 1000 ≡ refused 4
