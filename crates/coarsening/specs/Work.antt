-- What the work of the coarse begin asks, and what it leaves.
use Rattle.std.specs.Prelude.{◌≡◌, ◌⊎◌, false, List, ℕ, ◌/◌, ℤ}
use Rattle.rules.specs.declared.Sides.{Sides}
use Rattle.rules.specs.Grid.{size}
use Rattle.rules.specs.Marks.{Marked}
use Rattle.rules.specs.Begin.{new_record}
use Rattle.rules.specs.Answer.{done, outcome}
use Rattle.gaps.specs.Work.{Accepted}
use Rattle.coarse.specs.Coarse.{unfit_coarse, FourBuffers, coarse_on}

-- a grid that is not refused, with no mark or one for each voxel, and the lengths of the buffers
pub record Acceptable (s : Sides) (values : List ℤ) (marks dist status block-dist block-status : ℕ) : Type 0 where
  pub accepted : Accepted s values dist status
  pub fit-coarse : unfit_coarse s values ≡ false
  pub block-dist-len : block-dist ≡ size s / 8
  pub block-status-len : block-status ≡ size s / 8
  pub marks-len : (marks ≡ 0) ⊎ (marks ≡ size s)

-- whatever T is
pub record WorkedOut (s : Sides) (m : Marked) (values : List ℤ) (examined : ℕ) (left : FourBuffers) : Type 0 where
  pub worked : (T : ℕ) → outcome (done (record { next = new_record s T; examined = examined })) left ≡ coarse_on s T values m
