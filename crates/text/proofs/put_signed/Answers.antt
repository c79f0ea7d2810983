-- `text::put_signed` meets its contract.
use mathlib.Core.Path.{ap, sym, ◌∙◌}
use lib.IntN.{nat_abs}
use mir.Facts.{to_z-of_z}
use Rattle.prelude.proofs.Signs.{held-negative}
use Rattle.text.proofs.Lines.{signed-negative, signed-positive}
use borrow.Author.Rules.{rules}
use Rattle.text.proofs.put_signed.Goals as goal

pub returns-then-n-lt0 : goal.returns-then-n-lt0
returns-then-n-lt0 c =
    signed-negative c.args.n _ _ _ _ _ (c.from.ensures ∙ c.unsigned_abs.ensures.value ∙ ap nat_abs (to_z-of_z c.ranges.n)) c.put_number-start.ensures _ _ (search rules)
    (sym (held-negative c.ranges.n) ∙ c.if-n-lt0.true) c.put.ensures

pub returns-else-n-lt0 : goal.returns-else-n-lt0
returns-else-n-lt0 c =
    signed-positive c.args.n _ _ _ _ _ (c.from.ensures ∙ c.unsigned_abs.ensures.value ∙ ap nat_abs (to_z-of_z c.ranges.n)) c.put_number-start.ensures
    (sym (held-negative c.ranges.n) ∙ c.if-n-lt0.false)
