-- `surface::crossing` meets its contract: refused by the number, or answered where there is none.
use mathlib.Core.Path.{◌≡◌, refl, ap, subst}
use Rattle.std.specs.Prelude.{Option}
use Prim.Native.Nat.{ℕ}
use native.Mathlib.Omega.{arith}
use Rattle.rules.specs.Answer.{refused, done, outcome, untouched}
use Rattle.rules.specs.Machine.{State, state, lent_to}
use Rattle.rules.specs.Checks.{first_failing}
use Rattle.rules.proofs.Refusals.{passed, call-refused-by, call-passed}
use Rattle.surface.specs.declared.Point.{Point}
use Rattle.surface.specs.Surface.{crossing_checks, crossing_at, crossing, BoundedAt}
use Rattle.surface.proofs.Crossable.{crossable-held}
use Rattle.surface.proofs.crossing.Goals as goal

-- a refusal answers no point
no-point : {A : Type 0} (n : ℕ) (o : Option Point) → refused n ≡ done o → A
no-point n o e = let z : ◌≡◌ {A = ℕ} 0 1 = cc in absurd (never z)
  where
    never : ◌≡◌ {A = ℕ} 0 1 → ⊥
    never z = omega arith

module _ (i axis : ℕ) (g : State) where
  -- what is answered where no check fails, and its bound
  answered :
      (o : Option Point)
      → 0 ≡ first_failing (crossing_checks i axis g)
      → o ≡ crossing_at g.rec.sides g.dist i axis
      → outcome (done o) (lent_to g) ≡ crossing i axis g
  unfolding crossing
  answered o h e =
      call-passed (untouched (lent_to g)) _ (crossing_checks i axis g) refl h _ (ap (λ (o : Option Point). outcome (done o) (lent_to g)) e)

  bounded : (o : Option Point) → BoundedAt g.rec.sides g.dist i axis o → (q : Option Point) → done o ≡ done q → BoundedAt g.rec.sides g.dist i axis q
  bounded o b q e = subst (λ (o : Option Point). BoundedAt g.rec.sides g.dist i axis o) (same o q e) b
    where
      same : (o q : Option Point) → done o ≡ done q → o ≡ q
      same o q e = cc

pub returns-in-Err : goal.returns-in-Err
unfolding crossing
returns-in-Err c =
    let g = state c.args.given c.args.dist.now c.args.status.now in
    record {
      status_value = rw c.from.ensures (call-refused-by (untouched (lent_to g)) _ (crossing_checks c.args.index c.args.axis g) _ c.in-Err.ensures);
      bounded_at = λ o e. no-point _ o e;
    }

pub crossing_at-requires : goal.crossing_at-requires
crossing_at-requires c =
    let g = state c.args.given c.args.dist.now c.args.status.now in
    let h = crossable-held c.args.index c.args.axis g (passed (crossing_checks c.args.index c.args.axis g) refl c.in_default.ensures) in
    (h.next, h.ended.fit.voxels.lent.distances)

pub returns-in-Some : goal.returns-in-Some
returns-in-Some c =
    let a = c.args in
    let g = state a.given a.dist.now a.status.now in
    record {
      status_value = answered a.index a.axis g _ c.in_default.ensures c.in-Some.ensures.result_value;
      bounded_at = bounded a.index a.axis g _ c.in-Some.ensures.bounded_at;
    }

pub returns-in-None : goal.returns-in-None
returns-in-None c =
    let a = c.args in
    let g = state a.given a.dist.now a.status.now in
    record {
      status_value = answered a.index a.axis g _ c.in_default.ensures c.in-None.ensures.result_value;
      bounded_at = bounded a.index a.axis g _ c.in-None.ensures.bounded_at;
    }
