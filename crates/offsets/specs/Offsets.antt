-- For each stretch of voxels the offset of its best, for any key, and what is read from the offsets.
use Rattle.std.specs.Prelude.{◌≡◌, Bool, cond, List, ℕ, ◌+◌, ◌-◌, ◌*◌, ◌/◌, ◌%◌, ◌≤◌, ◌<◌, min, eqb, ltb, ℤ, length, get_or}
use Rattle.keys.specs.Key.{most, voxel_key, voxel_of, greatest, width, stretches, stretch_key}

-- ---- the offset of a stretch's best voxel, in place of its key

-- width where there is none
unfoldable pub offset_of : ℕ → ℕ
offset_of w = cond (eqb w 0) width (voxel_of w % width)

pub record Offset (key : ℕ → ℕ) (k o : ℕ) : Type 0 where
  pub high : o ≤ width
  pub off : o ≡ width → stretch_key key k ≡ 0
  pub on : o < width → stretch_key key k ≡ key (width * k + o)
  pub some : o < width → 0 < stretch_key key k

pub record Offsets (key : ℕ → ℕ) (p : ℕ) (offsets : List ℕ) : Type 0 where
  pub room : p ≤ length offsets
  pub each : (k : ℕ) → k < p → Offset key k (get_or offsets k 0)

-- the voxel that an offset leads to, read also where there is none
abbrev pub held_at : List ℕ → ℕ → ℕ
held_at offsets k = width * k + get_or offsets k 0 % width

unfoldable pub held_key : (ℕ → Bool) → List ℤ → List ℕ → ℕ → ℕ
held_key hurried dist offsets k = cond (ltb (get_or offsets k 0) width) (voxel_key hurried dist (held_at offsets k)) 0

pub record Held (dist : List ℤ) (offsets : List ℕ) : Type 0 where
  pub few : length dist ≤ most
  pub room : stretches (length dist) ≤ length offsets
  pub inside : (k : ℕ) → k < stretches (length dist) → held_at offsets k < length dist

-- ---- groups of stretches

abbrev pub group : ℕ
group = 8

-- how many groups p stretches have; the last may end early
abbrev pub groups : ℕ → ℕ
groups p = (p + (group - 1)) / group

-- the greatest key of group q
unfoldable pub group_key : (ℕ → ℕ) → ℕ → ℕ
group_key key q = greatest (stretch_key key) (group * q) group

-- .. from the offsets
unfoldable pub held_group : (ℕ → Bool) → List ℤ → List ℕ → ℕ → ℕ
held_group hurried dist offsets q = greatest (held_key hurried dist offsets) (group * q) (min group (stretches (length dist) - group * q))
