-- `words::value` meets its contract.
use mathlib.Core.Path.{ap, sym, ◌∙◌}
use Prim.Native.Nat.{ℕ}
use mir.Facts.{to_z-of_z}
use borrow.Author.Rules.{sfits_of}
use Rattle.format.specs.Bytes.{signed, widened, value_of}
use Rattle.format.proofs.Widening.{widening}
use mir.Syntax.{w32}
use Rattle.words.proofs.value.Goals as goal

pub returns-in-Two : goal.returns-in-Two
unfolding value_of
returns-in-Two c =
    to_z-of_z (sfits_of {w = w32} c.short_value.type_inv)
    ∙ c.short_value.ensures
    ∙ ap (λ (n : ℕ). widened 32768 (signed 32768 n)) c.word-n.ensures.0
    ∙ rw c.in-Two.is

pub returns-in-Four : goal.returns-in-Four
returns-in-Four c =
    to_z-of_z (sfits_of {w = w32} c.long_value.type_inv)
    ∙ c.long_value.ensures
    ∙ ap (signed 2147483648) c.word-n.ensures.0
    ∙ rw c.in-Four.is (sym (widening.wide _ _))
