-- `points::points_refusal` meets its contract: the checks of a finished grid, then 5.
use borrow.Author.Tests.{lt-ltb, le-ltb}
use mathlib.Core.Path.{◌≡◌, refl, sym, ◌∙◌}
use mathlib.Core.List.{[], ◌∷◌}
use Prim.Native.Nat.{ℕ, ◌*◌, ◌≤◌, ◌<◌}
use native.Mathlib.Omega.{arith}
use lib.Dec.{ltb}
use lib.ListN.{length}
use Rattle.rules.specs.Grid.{size}
use Rattle.rules.specs.Checks.{◌when◌, first_failing}
use Rattle.rules.specs.Machine.{State, state, finished_checks}
use Rattle.rules.proofs.Checks.{fails-first, holds-first}
use Rattle.rules.proofs.Refusals.{handed_on, refused-before, passed, passed-before}
use Rattle.rules.proofs.Fit.{ended}
use Rattle.points.specs.Listing.{points_checks}
use Rattle.points.proofs.points_refusal.Goals as goal
use Rattle.points.proofs.points_refusal.Goals.{In_ok-finished_refusal}

module _ (c : In_ok-finished_refusal) where
  abbrev lent : State
  lent = state c.args.given c.args.dist.now c.args.status.now

  abbrev n : ℕ
  n = size c.args.given.sides

  lengths : length c.args.dist.now ≡ n
  lengths =
      (ended lent (passed (finished_checks lent) refl c.in_ok-finished_refusal.ensures)).fit.voxels.lent.distances

  follows : (m : ℕ) → first_failing (5 when ltb (3 * n) c.args.position ∷ []) ≡ m → m ≡ first_failing (points_checks c.args.position lent)
  follows m e = passed-before (finished_checks lent) _ refl c.in_ok-finished_refusal.ensures m (sym e)

pub returns-in_err-finished_refusal : goal.returns-in_err-finished_refusal
returns-in_err-finished_refusal c =
    let g = state c.args.given c.args.dist.now c.args.status.now in
    handed_on _ _ c.from_residual.ensures.1
    ∙ refused-before (finished_checks g) (5 when ltb (3 * size g.rec.sides) c.args.position ∷ []) _ c.in_err-finished_refusal.ensures

pub returns-then-dist-position : goal.returns-then-dist-position
returns-then-dist-position c =
    let h : 3 * n (goal.at.returns-then-dist-position c).In_ok-finished_refusal < c.args.position = omega (arith, lengths (goal.at.returns-then-dist-position c).In_ok-finished_refusal, c.if-dist-position.true) in
    follows (goal.at.returns-then-dist-position c).In_ok-finished_refusal 5 (fails-first 5 _ [] (lt-ltb _ _ h))

pub returns : goal.returns
unfolding first_failing
returns c =
    let h : c.args.position ≤ 3 * n (goal.at.returns c).In_ok-finished_refusal = omega (arith, lengths (goal.at.returns c).In_ok-finished_refusal, c.if-dist-position.false) in
    follows (goal.at.returns c).In_ok-finished_refusal 0 (holds-first 5 _ [] (le-ltb _ _ h))
