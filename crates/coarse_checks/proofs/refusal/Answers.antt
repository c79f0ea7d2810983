-- `refusal` is the number of the first check that fails.
use mathlib.Core.Path.{◌≡◌, sym, ◌∙◌}
use mathlib.Core.Bool.{true}
use native.Mathlib.Omega.{arith}
use Prim.Native.Nat.{◌/◌}
use Rattle.rules.specs.Grid.{fit_sides, size}
use Rattle.rules.specs.Checks.{first_failing}
use Rattle.rules.proofs.Refusals.{handed_on}
use Rattle.coarse.specs.Coarse.{FourBuffers, coarse_checks}
use Rattle.coarse_checks.specs.Lengths.{Lengths}
use Rattle.coarse_checks.proofs.Numbers.{number-1, number-2, sized, number-given, number-31, number-0}
use Rattle.coarse_checks.proofs.refusal.Goals as goal
use Rattle.coarse_checks.proofs.refusal.Goals.{After-voxel_count-n, Else-block_status-n, Else-not-fit_sides}
use Rattle.coarse_checks.proofs.refusal.Goals.{then-dist-n-via-then-dist-n, then-dist-n-via-else-dist-n+then-status-n}
use Rattle.coarse_checks.proofs.refusal.Goals.{then-dist-n-via-else-dist-n+else-status-n+then-block_dist-n}
use Rattle.coarse_checks.proofs.refusal.Goals.{then-dist-n-via-else-dist-n+else-status-n+else-block_dist-n+then-block_status-n}

pub returns-then-not-fit_sides : goal.returns-then-not-fit_sides
returns-then-not-fit_sides c =
    λ l L.
    let a = c.args in
    number-1 a.sides a.values.now a.marks.now l (sym c.fit_sides.ensures ∙ c.if-not-fit_sides.true)

fits : (c : Else-not-fit_sides) → fit_sides c.args.sides ≡ true
fits c = sym c.fit_sides.ensures ∙ c.if-not-fit_sides.false

pub voxel_count-n-requires : goal.voxel_count-n-requires
voxel_count-n-requires c = fits c

-- a length is wrong
refused : (c : After-voxel_count-n) → let a = c.args in let n = c.voxel_count-n.result in
    (a.dist ≡ n → a.status ≡ n → a.block_dist ≡ n / 8 → a.block_status ≡ n / 8 → ⊥)
    → (l : FourBuffers) → Lengths l a.dist a.status a.block_dist a.block_status
    → 2 ≡ first_failing (coarse_checks a.sides a.values.now a.marks.now l)
refused c wrong l L =
    let a = c.args in
    let e = c.voxel_count-n.ensures.0 in
    number-2 a.sides a.values.now a.marks.now l (sym c.fit_sides.ensures ∙ c.if-not-fit_sides.false)
    (λ d t b u. wrong (omega (arith, L.dist-len)) (omega (arith, L.status-len)) (omega (arith, L.block-dist-len)) (omega (arith, L.block-status-len)))

pub returns-then-dist-n : goal.returns-then-dist-n
returns-then-dist-n c =
    refused (goal.at.returns-then-dist-n c).After-voxel_count-n
    (λ d t b u.
    elim c.then-dist-n.branch [
      | then-dist-n-via-then-dist-n w ↦ omega (arith, w.if-dist-n.true)
      | then-dist-n-via-else-dist-n+then-status-n w ↦ omega (arith, w.if-status-n.true)
      | then-dist-n-via-else-dist-n+else-status-n+then-block_dist-n w ↦ omega (arith, w.if-block_dist-n.true)
      | then-dist-n-via-else-dist-n+else-status-n+else-block_dist-n+then-block_status-n w ↦ omega (arith, w.if-block_status-n.true)
    ])

-- past the lengths
right : (c : Else-block_status-n) → let a = c.args in (l : FourBuffers) → Lengths l a.dist a.status a.block_dist a.block_status
    → Lengths l (size a.sides) (size a.sides) (size a.sides / 8) (size a.sides / 8)
right c l L =
    let e = c.voxel_count-n.ensures.0 in
    record {
      dist-len = omega (arith, L.dist-len, c.if-dist-n.false);
      status-len = omega (arith, L.status-len, c.if-status-n.false);
      block-dist-len = omega (arith, L.block-dist-len, c.if-block_dist-n.false);
      block-status-len = omega (arith, L.block-status-len, c.if-block_status-n.false);
    }

pub given_refusal-requires : goal.given_refusal-requires
given_refusal-requires c = (fits (goal.at.given_refusal-requires c).Else-not-fit_sides, c.requires)

pub returns-in_err-given_refusal : goal.returns-in_err-given_refusal
returns-in_err-given_refusal c =
    λ l L.
    let g = goal.at.returns-in_err-given_refusal c in
    handed_on _ _ c.from_residual.ensures.1
    ∙ number-given _ _ _ l (fits g.Else-not-fit_sides) (right g.Else-block_status-n l L) _ c.in_err-given_refusal.ensures

pub unfit-requires : goal.unfit-requires
unfit-requires c =
    let a = c.args in
    sized a.sides a.values.now a.marks.now (fits (goal.at.unfit-requires c).Else-not-fit_sides) c.in_ok-given_refusal.ensures

pub returns-then-unfit : goal.returns-then-unfit
returns-then-unfit c =
    λ l L.
    let g = goal.at.returns-then-unfit c in
    number-31 _ _ _ l (fits g.Else-not-fit_sides) (right g.Else-block_status-n l L) c.in_ok-given_refusal.ensures (sym c.unfit.ensures ∙ c.if-unfit.true)

pub returns : goal.returns
returns c =
    λ l L.
    let g = goal.at.returns c in
    number-0 _ _ _ l (fits g.Else-not-fit_sides) (right g.Else-block_status-n l L) c.in_ok-given_refusal.ensures (sym c.unfit.ensures ∙ c.if-unfit.false)
