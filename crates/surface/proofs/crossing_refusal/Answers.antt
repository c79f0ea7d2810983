-- `surface::crossing_refusal` meets its contract: the checks of a finished grid, then 5 and 6.
use mathlib.Core.Path.{◌≡◌, refl, sym, ◌∙◌, subst}
use Prim.Native.Nat.{ℕ, ◌≤◌, ◌<◌}
use Rattle.rules.specs.Grid.{size}
use Rattle.rules.specs.Checks.{first_failing}
use Rattle.rules.specs.Machine.{State, state, finished_checks}
use Rattle.rules.specs.Fit.{Ended}
use Rattle.rules.proofs.Refusals.{handed_on, refused-before, passed, passed-before}
use Rattle.rules.proofs.Fit.{ended}
use Rattle.surface.specs.Surface.{next_checks, crossing_checks}
use Rattle.surface.proofs.Crossable.{five, six, neither}
use Rattle.surface.proofs.crossing_refusal.Goals as goal
use Rattle.surface.proofs.crossing_refusal.Goals.{In_ok-finished_refusal, Else-voxel_count-index}

-- ---- where the checks of a finished grid hold

module _ (c : In_ok-finished_refusal) where
  abbrev lent : State
  lent = state c.args.given c.args.dist.now c.args.status.now

  found : Ended lent
  found = ended lent (passed (finished_checks lent) refl c.in_ok-finished_refusal.ensures)

  follows :
      (m : ℕ)
      → first_failing (next_checks c.args.index c.args.axis c.args.given.sides) ≡ m
      → m ≡ first_failing (crossing_checks c.args.index c.args.axis lent)
  follows m e = passed-before (finished_checks lent) _ refl c.in_ok-finished_refusal.ensures m (sym e)

under : (c : Else-voxel_count-index) → c.args.index < size c.args.given.sides
under c = subst (λ (n : ℕ). c.args.index < n) c.voxel_count.ensures.0 c.if-voxel_count-index.false

-- ---- the goals

pub returns-in_err-finished_refusal : goal.returns-in_err-finished_refusal
returns-in_err-finished_refusal c =
    let g = state c.args.given c.args.dist.now c.args.status.now in
    handed_on _ _ c.from_residual.ensures.1
    ∙ refused-before (finished_checks g) (next_checks c.args.index c.args.axis c.args.given.sides) _ c.in_err-finished_refusal.ensures

pub voxel_count-requires : goal.voxel_count-requires
voxel_count-requires c = (found (goal.at.voxel_count-requires c).In_ok-finished_refusal).fit.voxels.lent.sides

pub returns-then-voxel_count-index : goal.returns-then-voxel_count-index
returns-then-voxel_count-index c =
    follows (goal.at.returns-then-voxel_count-index c).In_ok-finished_refusal 5
    (five c.args.index c.args.axis c.args.given.sides (subst (λ (n : ℕ). n ≤ c.args.index) c.voxel_count.ensures.0 c.if-voxel_count-index.true))

pub beyond-requires : goal.beyond-requires
beyond-requires c = ((found (goal.at.beyond-requires c).In_ok-finished_refusal).fit.voxels.lent.sides, under (goal.at.beyond-requires c).Else-voxel_count-index)

pub returns-then-beyond : goal.returns-then-beyond
returns-then-beyond c =
    follows (goal.at.returns-then-beyond c).In_ok-finished_refusal 6 (six c.args.index c.args.axis c.args.given.sides (under (goal.at.returns-then-beyond c).Else-voxel_count-index) _ c.beyond.ensures c.if-beyond.true)

pub returns : goal.returns
returns c =
    follows (goal.at.returns c).In_ok-finished_refusal 0 (neither c.args.index c.args.axis c.args.given.sides (under (goal.at.returns c).Else-voxel_count-index) _ c.beyond.ensures c.if-beyond.false)
