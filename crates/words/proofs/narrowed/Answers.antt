-- `words::narrowed` meets its contract.
use mathlib.Core.Path.{◌∙◌}
use native.Mathlib.Omega.{arith}
use mir.Facts.{to_z-of_z}
use borrow.Author.Rules.{sfits_of}
use Rattle.words.proofs.Turning.{all_said, held}
use mir.Syntax.{w32}
use Rattle.words.proofs.narrowed.Goals as goal

pub returns-in-Two : goal.returns-in-Two
returns-in-Two c =
    to_z-of_z (sfits_of {w = w32} c.clamp.type_inv)
    ∙ c.clamp.ensures.value
    ∙ rw (to_z-of_z c.ranges.v, c.in-Two.is) (held _ (omega arith) _ (rw c.in-Two.is at c.requires))

pub returns-in-Four : goal.returns-in-Four
returns-in-Four c = rw c.in-Four.is (to_z-of_z c.ranges.v ∙ all_said _)
