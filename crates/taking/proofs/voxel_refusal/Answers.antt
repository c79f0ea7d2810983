-- `taking::voxel_refusal` meets its contract: each return by the tests that led there.
use mathlib.Core.Path.{◌≡◌, sym, ◌∙◌}
use mathlib.Core.Bool.{true, false}
use Prim.Native.Nat.{◌≤◌, ◌<◌}
use native.Mathlib.Omega.{arith}
use borrow.Author.Rules.{rules}
use borrow.Author.Tests.{le-leb, lt-leb}
use lib.Dec.{leb}
use mir.Syntax.{w32}
use mir.Val.{SFits}
use Rattle.prelude.proofs.Signs.{held-negative}
use Rattle.rules.specs.Status.{is_kept}
use Rattle.rules.specs.Machine.{state, is_inside}
use Rattle.rules.specs.Checks.{first_failing}
use Rattle.rules.specs.Grid.{size, distance_at}
use Rattle.waking.proofs.Fitting.{kept-removable}
use mathlib.Core.Path.{ap}
use mathlib.Core.Bool.{not}
use Rattle.taking.proofs.voxel_refusal.Goals as goal
use Rattle.taking.proofs.voxel_refusal.Goals.{Else-dist-index-lt0, Else-not-is_kept, Else-status-index}

pub returns-then-status-index : goal.returns-then-status-index
unfolding first_failing
returns-then-status-index c =
    let l = c.requires.fit.voxels.lent.statuses in
    let h : size c.args.given.sides ≤ c.args.index = omega (arith, c.if-status-index.true) in
    simp (le-leb _ _ h)

-- where the index is that of a voxel
below : (c : Else-status-index) → let p = c.args in p.index < size p.given.sides
below c = let l = c.requires.fit.voxels.lent.statuses in omega (arith, c.if-status-index.false)

within : (c : Else-status-index) → let p = c.args in leb (size p.given.sides) p.index ≡ false
within c = lt-leb _ _ (below c)

pub returns-then-not-is_kept : goal.returns-then-not-is_kept
unfolding first_failing is_kept
returns-then-not-is_kept c =
    simp (within (goal.at.returns-then-not-is_kept c).Else-status-index, ← c.is_kept.ensures, (ap not c.if-not-is_kept.true))

-- where the voxel is kept
kept : (c : Else-not-is_kept) → let a = c.args in is_kept a.status.now a.index ≡ true
unfolding is_kept
kept c = sym c.is_kept.ensures ∙ c.if-not-is_kept.false

pub returns-then-dist-index-lt0 : goal.returns-then-dist-index-lt0
unfolding first_failing is_inside
returns-then-dist-index-lt0 c =
    let at = goal.at.returns-then-dist-index-lt0 c in
    let d-fits : SFits w32 (distance_at c.args.dist.now c.args.index) = search rules in
    simp (within at.Else-status-index, kept at.Else-not-is_kept, sym (held-negative d-fits) ∙ c.if-dist-index-lt0.true)

-- where the voxel may go, by its distance and its mark
outer : (c : Else-dist-index-lt0) → let a = c.args in is_inside a.dist.now a.index ≡ false
unfolding is_inside
outer c =
    let d-fits : SFits w32 (distance_at c.args.dist.now c.args.index) = search rules in
    sym (held-negative d-fits) ∙ c.if-dist-index-lt0.false

pub returns-then-pinned : goal.returns-then-pinned
unfolding first_failing
returns-then-pinned c =
    let at = goal.at.returns-then-pinned c in
    simp (within at.Else-status-index, kept at.Else-not-is_kept, outer at.Else-dist-index-lt0, ← c.pinned.ensures, c.if-pinned.true)

pub passes_at-requires : goal.passes_at-requires
passes_at-requires c =
    let at = goal.at.passes_at-requires c in
    let g = state c.args.given c.args.dist.now c.args.status.now in
    let r = kept-removable g c.requires.fit c.args.index (below at.Else-status-index) (kept at.Else-not-is_kept) in
    (r.voxel, r.statuses)

pub returns-then-not-passes_at : goal.returns-then-not-passes_at
unfolding first_failing
returns-then-not-passes_at c =
    let at = goal.at.returns-then-not-passes_at c in
    simp (within at.Else-status-index, kept at.Else-not-is_kept, outer at.Else-dist-index-lt0, ← c.pinned.ensures, c.if-pinned.false, ← c.passes_at.ensures, (ap not c.if-not-passes_at.true))

pub returns : goal.returns
unfolding first_failing
returns c =
    let at = goal.at.returns c in
    simp (within at.Else-status-index, kept at.Else-not-is_kept, outer at.Else-dist-index-lt0, ← c.pinned.ensures, c.if-pinned.false, ← c.passes_at.ensures, (ap not c.if-not-passes_at.false))
