-- `closing::closed_value` meets its contract: each need is a law of `Closing`.
use mathlib.Core.Path.{◌≡◌, refl, sym, ap, ◌∙◌}
use mathlib.Core.Bool.{true, false}
use Rattle.std.specs.Int.{int_max}
use lib.IntN.{ℤ, pos, negsuc, ◌-ℤ◌}
use lib.Signed.{le_z}
use mir.Syntax.{w32}
use mir.Facts.{to_z-of_z}
use native.Mathlib.Omega.{arith}
use borrow.Author.Rules.{sfits_of, rules}
use borrow.Author.Tests.{le-leb}
use Rattle.rules.specs.Grid.{is_negative}
use Rattle.closing.proofs.Closing.{closed-gone, closed-negative, closed-outer}
use Rattle.closing.proofs.closed_value.Goals as goal
use Rattle.closing.proofs.closed_value.Goals.{else-is_kept-via-then-is_kept+else-d-ge0, else-is_kept-via-else-is_kept}

outer : (z : ℤ) → le_z (pos 0) z ≡ true → is_negative z ≡ false
outer (pos n) e = refl
outer (negsuc n) e = sym e

inner : (z : ℤ) → le_z (pos 0) z ≡ false → is_negative z ≡ true
inner (pos n) e = sym e ∙ le-leb 0 n (omega arith)
inner (negsuc n) e = refl

pub overflow_sub-result : goal.overflow_sub-result
overflow_sub-result c = search rules

pub returns-then-d-ge0 : goal.returns-then-d-ge0
returns-then-d-ge0 c =
    let d = to_z-of_z c.ranges.d in
    to_z-of_z (overflow_sub-result c)
    ∙ ap (λ (z : ℤ). pos 0 -ℤ z) (to_z-of_z (sfits_of {w = w32} c.max.type_inv) ∙ c.max.ensures.value ∙ ap (λ (z : ℤ). int_max z (pos 1)) d)
    ∙ closed-outer c.args.d c.args.x (sym c.is_kept.ensures ∙ c.if-is_kept.true)
    (outer c.args.d (ap (λ (z : ℤ). le_z (pos 0) z) (sym d) ∙ c.if-d-ge0.true))

pub returns-else-is_kept : goal.returns-else-is_kept
returns-else-is_kept c =
    let d = to_z-of_z c.ranges.d in
    d
    ∙ elim c.else-is_kept.branch [
      | else-is_kept-via-then-is_kept+else-d-ge0 w ↦
          sym (closed-negative c.args.d c.args.x (sym c.is_kept.ensures ∙ w.if-is_kept.true)
          (inner c.args.d (ap (λ (z : ℤ). le_z (pos 0) z) (sym d) ∙ w.if-d-ge0.false)))
      | else-is_kept-via-else-is_kept w ↦ sym (closed-gone c.args.d c.args.x (sym c.is_kept.ensures ∙ w.if-is_kept.false))
    ]
