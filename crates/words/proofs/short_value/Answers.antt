-- `words::short_value` meets its contract.
use mathlib.Core.Path.{◌≡◌, sym, ap₂, subst, ◌∙◌}
use lib.Bits.{bit_xor}
use lib.IntN.{pos, ◌-ℤ◌}
use mir.Syntax.{w32}
use mir.Val.{SFits, to_z, of_z}
use mir.Facts.{to_z-of_z}
use borrow.Author.Rules.{sfits_of}
use Rattle.words.proofs.Turning.{turned-small, turned-over, short-fits, fallen, fallen-is, fallen-fits}
use Rattle.words.proofs.short_value.Goals as goal
use Rattle.words.proofs.short_value.Goals.{After-fall}

pub overflow_cast-result : goal.overflow_cast-result
overflow_cast-result c = record { sfits = turned-small _ c.requires }

pub overflow_sub-result : goal.overflow_sub-result
overflow_sub-result c = subst (SFits w32) (sym (turned-over _ c.requires)) (short-fits _ c.requires)

difference : (c : After-fall)
    → to_z w32 (of_z w32 (to_z w32 (bit_xor c.args.n 32768) -ℤ pos 32768)) -ℤ to_z w32 (of_z w32 c.fall.result) ≡ fallen c.args.n
difference c =
    ap₂ ◌-ℤ◌ (to_z-of_z (overflow_sub-result c.before) ∙ turned-over _ c.requires) (to_z-of_z (sfits_of {w = w32} c.fall.type_inv) ∙ c.fall.ensures)

pub overflow_sub-result-2 : goal.overflow_sub-result-2
overflow_sub-result-2 c = subst (SFits w32) (sym (difference c)) (fallen-fits _ c.requires)

pub returns : goal.returns
returns c = to_z-of_z (overflow_sub-result-2 c) ∙ difference c ∙ fallen-is _ c.requires
