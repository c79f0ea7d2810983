-- `greatest_of`: the greatest height before voxel i.
use Rattle.std.proofs.Common.{◌≡◌, ℕ, ℤ, ◌≤◌, ◌<◌}
use Rattle.searching.specs.Argmax.{rank, Greatest}
use Rattle.searching.proofs.greatest_of.Given as goal

abbrev pub invariant-loop-i : goal.invariant-loop-i
invariant-loop-i g l =
    (f : ℕ → ℕ) → ((i : ℕ) (h : ℤ) → l.first ≤ i → i < l.end → goal.F-post g l.height i h → f i ≡ rank h) → Greatest f l.first l.i (rank l.best)
