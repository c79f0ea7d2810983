-- What follows from demand 3 and is asked for most: no voxel is lost count of, and with T = 0 the body is closed. proofs/Corollaries.antt proves it.
use Rattle.std.specs.Prelude.{◌≡◌, not, ◌&&◌, List, ℕ, ◌+◌, ltb, pos}
use Rattle.cells.specs.Linked.{OnePiece}
use Rattle.rules.specs.declared.Sides.{Sides}
use Rattle.rules.specs.Grid.{size, touch, share_face}
use Rattle.rules.specs.Meaning.{found}
use Rattle.rules.specs.Status.{is_kept}
use Rattle.rules.specs.Body.{body_of, euler_of}
use Rattle.rules.specs.Demand.{Promise, FromBegin, Call, run}

-- after every list of calls, whatever marks they are lent, the kept voxels and the removals make up the body at the start
abbrev pub CountedAfter : Promise
CountedAfter s T values marks start begun =
    (calls : List Call) → let after = run calls begun in found s (is_kept after.end.status) + after.answers.removed ≡ found s start

abbrev pub KeptAndRemoved : Type 0
KeptAndRemoved = FromBegin CountedAfter

-- background and body are each in one piece, and the body's corners - edges + faces - cubes are 1
pub record Closed (s : Sides) (status : List ℕ) : Type 0 where
  pub background-one-piece : OnePiece (λ i. ltb i (size s) && not (is_kept status i)) (share_face s)
  pub body-one-piece : OnePiece (is_kept status) (touch s)
  pub euler-one : euler_of s (body_of s (is_kept status)) ≡ pos 1

-- with T = 0 that holds after every list of calls, whatever marks they are lent
abbrev pub ClosedAfter : Promise
ClosedAfter s T values marks start begun = T ≡ 0 → (calls : List Call) → Closed s (run calls begun).end.status

abbrev pub ClosedWithoutOpenings : Type 0
ClosedWithoutOpenings = FromBegin ClosedAfter
