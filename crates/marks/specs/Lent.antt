-- The marks that a call is lent, joined in one number.
use Rattle.std.specs.Prelude.{cond, List, ℕ, ◌≤◌, eqb, length}
use Rattle.loops.specs.Joined.{Joined}

-- the bits of all of them, where they are no more than a grid can have voxels
abbrev pub All : List ℕ → ℕ → Type 0
All marks r = length marks ≤ 262144 → Joined marks 0 (length marks) r

-- how many are handed on
unfoldable pub used_of : ℕ → ℕ → ℕ
used_of all n = cond (eqb all 0) 0 n
