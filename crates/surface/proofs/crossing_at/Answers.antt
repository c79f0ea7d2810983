-- `surface::crossing_at` meets its contract: it reads both distances, and the rule's bound holds of what it answers.
use borrow.Author.Rules.{rules}
use mathlib.Core.Path.{◌≡◌, sym, ap, ◌∙◌, subst}
use mathlib.Core.Bool.{true, false}
use Rattle.std.specs.Prelude.{Option, None, Some}
use Prim.Native.Nat.{ℕ, ◌+◌, ◌<◌}
use native.Mathlib.Omega.{arith}
use lib.IntN.{ℤ}
use lib.ListN.{length}
use mir.Syntax.{w32}
use mir.Val.{SFits}
use Rattle.rules.specs.Grid.{Voxel, voxel, size, distance_at}
use Rattle.surface.specs.declared.Point.{Point}
use Rattle.surface.specs.Surface.{next, crossing_of, next_index, crossing_at, BoundedAt}
use Rattle.surface.proofs.Bound.{Word, crossing_at-bounded}
use Rattle.surface.proofs.Indices.{next-below, next-index, voxel-next}
use Rattle.surface.proofs.Between.{neither, from-here, from_next}
use Rattle.surface.proofs.crossing_at.Goals as goal
use Rattle.surface.proofs.crossing_at.Goals.{After-stride}

-- ---- the next voxel's index

module _ (c : After-stride) where
  abbrev j : ℕ
  j = c.args.i + c.stride.result

  j-is : j ≡ next_index c.args.sides c.args.i c.args.axis
  j-is =
      ap (λ (n : ℕ). c.args.i + n) c.stride.ensures.0
      ∙ sym (next-index c.args.sides c.requires.0.fit c.args.i c.args.axis)

  j-below : j < size c.args.sides
  j-below = omega (arith, j-is, next-below c.args.sides c.args.i c.args.axis c.requires.0)

  j-lt : j < length c.args.dist.now
  j-lt = omega (arith, j-below, c.requires.1)

  -- the voxel of that index
  j-next : voxel c.args.sides j ≡ next c.args.axis (voxel c.args.sides c.args.i)
  j-next = ap (voxel c.args.sides) j-is ∙ voxel-next c.args.sides c.args.i c.args.axis c.requires.0

  -- ---- the answer

  abbrev v : Voxel
  v = voxel c.args.sides c.args.i

  abbrev here : ℤ
  here = distance_at c.args.dist.now c.args.i

  abbrev there : ℤ
  there = distance_at c.args.dist.now j

  abbrev Bound : Option Point → Type 0
  Bound o = BoundedAt c.args.sides c.args.dist.now c.args.i c.args.axis o

  abbrev answer : Option Point
  answer = crossing_at c.args.sides c.args.dist.now c.args.i c.args.axis

  module _ (F : SFits w32 here) (G : SFits w32 there) where
    meets :
        (o : Option Point)
        → o ≡ crossing_of c.args.axis v here there
        → (o ≡ answer) × (Bound o)
    unfolding crossing_at
    meets o e =
        let a : o ≡ answer = e ∙ ap (λ (n : ℕ). crossing_of c.args.axis v here (distance_at c.args.dist.now n)) j-is in
        (a, subst Bound (sym a) bounded)
      where
        bounded : Bound answer
        bounded =
            crossing_at-bounded c.args.sides c.args.dist.now c.args.i c.args.axis c.requires.0 F.sfits
            (subst (λ (n : ℕ). Word (distance_at c.args.dist.now n)) j-is G.sfits)

-- ---- the goals

pub bounds-dist-j : goal.bounds-dist-j
bounds-dist-j c = j-lt (goal.at.bounds-dist-j c).After-stride

pub returns-in-true-false : goal.returns-in-true-false
returns-in-true-false c =
    let r = (goal.at.returns-in-true-false c).After-stride in
    let F : SFits w32 (here r) = search rules in
    let G : SFits w32 (there r) = search rules in
    let m =
    meets r F G (Some c.point_between.result)
    (from-here c.args.axis (v r) (here r) (there r) F G c.point_between.result c.in-true-false.is-0 c.in-true-false.is-1 c.point_between.ensures) in
    record { result_value = m.0; bounded_at = m.1 }

pub point_between-requires-in-false-true : goal.point_between-requires-in-false-true
point_between-requires-in-false-true c = (c.requires.0.fit, j-below (goal.at.point_between-requires-in-false-true c).After-stride)

pub returns-in-false-true : goal.returns-in-false-true
returns-in-false-true c =
    let r = (goal.at.returns-in-false-true c).After-stride in
    let F : SFits w32 (here r) = search rules in
    let G : SFits w32 (there r) = search rules in
    let m =
    meets r F G (Some c.point_between-in-false-true.result)
    (from_next c.args.axis (v r) (here r) (there r) F G (voxel c.args.sides (j r))
    c.point_between-in-false-true.result (j-next r) c.in-false-true.is-0 c.in-false-true.is-1 c.point_between-in-false-true.ensures) in
    record { result_value = m.0; bounded_at = m.1 }

pub returns-in-true-true : goal.returns-in-true-true
returns-in-true-true c =
    let r = (goal.at.returns-in-true-true c).After-stride in
    let F : SFits w32 (here r) = search rules in
    let G : SFits w32 (there r) = search rules in
    let m =
    meets r F G None (neither c.args.axis (v r) (here r) (there r) F G true c.in-true-true.is-0 c.in-true-true.is-1) in
    record { result_value = m.0; bounded_at = m.1 }

pub returns-in-true-true-2 : goal.returns-in-true-true-2
returns-in-true-true-2 c =
    let r = (goal.at.returns-in-true-true-2 c).After-stride in
    let F : SFits w32 (here r) = search rules in
    let G : SFits w32 (there r) = search rules in
    let m =
    meets r F G None (neither c.args.axis (v r) (here r) (there r) F G false c.in-true-true.is-0 c.in-true-true.is-1) in
    record { result_value = m.0; bounded_at = m.1 }
