-- `layers::width_at` meets its contract.
use mathlib.Core.Path.{sym, ◌∙◌}
use Prim.Native.Nat.{◌+◌}
use native.Mathlib.Omega.{arith}
use lib.ListN.{length}
use borrow.Author.Tests.{ltb-true, ltb-false}
use Rattle.format.proofs.WidthAt.{width-short, width-wide, width_narrow}
use Rattle.layers.proofs.width_at.Goals as goal
use Rattle.layers.proofs.width_at.Goals.{else-not-is_short-via-then-not-is_short+else-is_tagged, else-not-is_short-via-else-not-is_short}

pub is_tagged-requires : goal.is_tagged-requires
is_tagged-requires c =
    let a = c.args in
    omega (arith, ltb-false (length a.file.now) (a.start + 2) (sym c.is_short.ensures ∙ c.if-not-is_short.true))

pub returns-then-is_tagged : goal.returns-then-is_tagged
returns-then-is_tagged c = sym (width-wide _ _ (sym c.is_tagged.ensures ∙ c.if-is_tagged.true))

pub returns-else-not-is_short : goal.returns-else-not-is_short
returns-else-not-is_short c =
    elim c.else-not-is_short.branch [
      | else-not-is_short-via-then-not-is_short+else-is_tagged w ↦ sym (width_narrow _ _ (sym w.is_tagged.ensures ∙ w.if-is_tagged.false))
      | else-not-is_short-via-else-not-is_short w ↦ sym (width-short _ _ (ltb-true _ _ (sym c.is_short.ensures ∙ w.if-not-is_short.false)))
    ]
