-- The bound for every grid that begin takes: 32 bits hold its distances.
use mathlib.Core.Path.{◌≡◌, subst}
use Rattle.std.specs.Prelude.{Option}
use Prim.Native.Nat.{ℕ, ◌≤◌}
use native.Mathlib.Omega.{arith}
use lib.IntN.{ℤ, pos, negsuc, nat_abs}
use Rattle.rules.specs.declared.Sides.{Sides}
use Rattle.rules.specs.Grid.{distance_at}
use Rattle.rules.specs.Answer.{done, outcome, untouched}
use Rattle.rules.specs.Machine.{State, lent_to}
use Rattle.rules.specs.LongRange.{farthest, WithinRange}
use Rattle.rules.proofs.Checks.{by-checks}
use Rattle.rules.proofs.LongRange.{stays-within-range}
use Rattle.surface.specs.declared.Point.{Point}
use Rattle.surface.specs.Surface.{next_index, crossing_at, crossing_checks, crossing, BoundedAt}
use Rattle.surface.specs.LongRange.{PointsBounded}
use Rattle.surface.proofs.Bound.{Word, crossing_at-bounded}
use Rattle.surface.proofs.Crossable.{crossable-held}

near_word : (d : ℤ) → nat_abs d ≤ farthest → Word d
near_word (pos n) h = omega arith
near_word (negsuc n) h = omega arith

crossing-near : (g : State) → WithinRange g → (i axis : ℕ) (o : Option Point) → (crossing i axis g).answer ≡ done o
    → BoundedAt g.rec.sides g.dist i axis o
unfolding crossing
crossing-near g near i axis o =
    by-checks (untouched (lent_to g)) (outcome (done (crossing_at s g.dist i axis)) (lent_to g)) (λ a. a.answer ≡ done o → BoundedAt s g.dist i axis o)
    (crossing_checks i axis g)
    (λ n e. let z : ◌≡◌ {A = ℕ} 0 1 = cc in let y : ⊥ = omega arith in absurd y)
    (λ h e. let q : crossing_at s g.dist i axis ≡ o = cc in
    subst (λ (o : Option Point). BoundedAt s g.dist i axis o) q
    (crossing_at-bounded s g.dist i axis (crossable-held i axis g h).next (near_word (distance_at g.dist i) (near i))
    (near_word (distance_at g.dist (next_index s i axis)) (near (next_index s i axis)))))
  where
    s : Sides
    s = g.rec.sides

pub points-bounded : PointsBounded
points-bounded s T values marks dist status r e calls = crossing-near _ (stays-within-range s T values marks dist status r e calls)
