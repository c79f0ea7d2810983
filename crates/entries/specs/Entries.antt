-- The entries of a removal list in the status bytes: each takes its voxel out, and all are put back from the last to the first.
use Rattle.std.specs.Prelude.{List, ℕ, zero, suc, ◌+◌, ◌-◌, ◌*◌, ◌%◌, ◌≤◌, ◌<◌, length, set}
use Rattle.rules.specs.Status.{status_of}
use Rattle.judging.specs.Judge.{entry_length, entry_at}

-- the voxel of entry r
abbrev pub index_of : List ℕ → ℕ → ℕ
index_of list r = (entry_at list (entry_length * r)).at

-- a kept voxel's byte made that of one gone: 1 and 3 become 0 and 2
abbrev pub taken_out : List ℕ → ℕ → List ℕ
taken_out status i = set status i (status_of status i - 1)

-- bit 0 set again
abbrev pub kept_again : List ℕ → ℕ → List ℕ
kept_again status i = set status i (status_of status i + 1 - status_of status i % 2)

-- the voxels of the first entries, the last one first
abbrev pub put_back : List ℕ → ℕ → List ℕ → List ℕ
put_back list zero status = status
put_back list (suc r) status = put_back list r (kept_again status (index_of list r))

-- the first entries are whole, and their voxels in a buffer of n
pub record Listed (list : List ℕ) (entries n : ℕ) : Type 0 where
  pub whole : entry_length * entries ≤ length list
  pub below : (r : ℕ) → r < entries → index_of list r < n
