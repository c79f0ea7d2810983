-- `points::point_on` meets its contract: each way out is a fact of `Position`.
use borrow.Author.Rules.{rules}
use mathlib.Core.Path.{◌≡◌, refl, sym, ap, ◌∙◌}
use mathlib.Core.Bool.{Bool, beq, true, false}
use Prim.Native.Nat.{ℕ, ◌+◌, ◌/◌, ◌%◌}
use native.Mathlib.Omega.{arith}
use borrow.Author.Tests.{ltb-false}
use lib.IntN.{pos}
use mir.Syntax.{w32}
use mir.Val.{SFits}
use Rattle.prelude.proofs.Signs.{held-negative}
use Rattle.rules.specs.Grid.{is_negative, distance_at}
use Rattle.surface.specs.Coordinates.{stride}
use Rattle.points.proofs.Position.{no-next, with-next, six-is, has-next, past_end, one-sign}
use Rattle.points.proofs.point_on.Goals as goal
use Rattle.points.proofs.point_on.Goals.{After-stride, then-here-there-via-then-here-there, then-here-there-via-else-here-there+then-beyond}

same : (p q : Bool) → beq p q ≡ true → p ≡ q
same true true e = refl
same false false e = refl
same true false e = sym e
same false true e = e

module _ (c : After-stride) where
  abbrev j : ℕ
  j = c.args.p / 3 + c.stride.result

  j-is : j ≡ c.args.p / 3 + stride (c.args.p % 3) c.args.sides
  j-is = ap (λ (n : ℕ). c.args.p / 3 + n) c.stride.ensures.0

-- ---- the goals

pub returns-in_err-there : goal.returns-in_err-there
returns-in_err-there c =
    c.from_residual.ensures
    ∙ past_end c.args.sides c.args.dist.now c.args.p c.requires.fit (omega (arith, c.requires.within))
    (omega (arith, ltb-false _ _ (sym c.in_err-there.ensures.lookup.0), c.requires.lent, j-is (goal.at.returns-in_err-there c).After-stride))

pub returns-then-here-there : goal.returns-then-here-there
returns-then-here-there c =
    let a = c.args in
    let d = a.dist.now in
    let F : SFits w32 (distance_at d (a.p / 3)) = search rules in
    let G : SFits w32 c.in_ok-there.field-0.now = search rules in
    elim c.then-here-there.branch [
      | then-here-there-via-then-here-there w ↦
          one-sign a.sides d a.p c.requires.fit
          (sym (held-negative F) ∙ same _ _ w.if-here-there.true ∙ held-negative G ∙ ap is_negative (c.in_ok-there.ensures.lookup.3.1 (pos 0))
          ∙ ap (λ (n : ℕ). is_negative (distance_at d n)) (j-is (goal.at.returns-then-here-there c).After-stride))
      | then-here-there-via-else-here-there+then-beyond w ↦ no-next a.sides d a.p (six-is a.sides d a.p _ w.beyond.ensures ∙ w.if-beyond.true)
    ]

pub crossing_at-requires : goal.crossing_at-requires
crossing_at-requires c =
    let a = c.args in (
      has-next a.sides a.dist.now a.p c.requires.fit (omega (arith, c.requires.within)) (six-is a.sides a.dist.now a.p _ c.beyond.ensures ∙ c.if-beyond.false),
      c.requires.lent,
    )

pub returns : goal.returns
returns c =
    let a = c.args in
    c.crossing_at.ensures.result_value
    ∙ with-next a.sides a.dist.now a.p (six-is a.sides a.dist.now a.p _ c.beyond.ensures ∙ c.if-beyond.false)
