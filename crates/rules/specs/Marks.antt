-- Document 02's CR 7, "Pins and hurries", and CR 9, "Pinned and hurried together": what the lent mark bytes ask for. Begin and the machine work on
-- the two sets; the bytes are read here alone.
use Rattle.std.specs.Prelude.{Bool, false, not, ◌||◌, List, ℕ, ltb, eqb, length, get_or, replicate}
use Rattle.cells.specs.Groups.{any}
use Rattle.rules.specs.declared.Sides.{Sides}
use Rattle.rules.specs.Grid.{size}

-- the voxels to be held, and those to be got rid of early
pub record Marked : Type 0 where
  pub pinned : ℕ → Bool
  pub hurried : ℕ → Bool

abbrev pub mark_of : List ℕ → ℕ → ℕ
mark_of marks i = get_or marks i 0

-- a mark byte is 0, 1 pinned, 2 hurried, or 3, which means 1
unfoldable pub pinned_mark : ℕ → Bool
pinned_mark x = eqb x 1 || eqb x 3

unfoldable pub hurried_mark : ℕ → Bool
hurried_mark x = eqb x 2

unfoldable pub marked : List ℕ → Marked
marked marks = record { pinned = λ i. pinned_mark (mark_of marks i); hurried = λ i. hurried_mark (mark_of marks i) }

-- number 29: a mark over 3
unfoldable pub stray_mark : List ℕ → Bool
stray_mark marks = any (ltb 3) marks

-- number 2: the marks' length is not n
unfoldable pub wrong_marks : Sides → List ℕ → Bool
wrong_marks s marks = not (eqb (length marks) (size s))

-- no voxel is marked: the sets, and the bytes
abbrev pub unmarked : Marked
unmarked = record { pinned = λ i. false; hurried = λ i. false }

unfoldable pub no_marks : Sides → List ℕ
no_marks s = replicate (size s) 0
