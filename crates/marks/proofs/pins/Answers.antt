-- `marks::pins` meets its contract, by whether the mark is 1 and whether it is 3.
use mathlib.Core.Logic.{inl, inr}
use lib.Dec.{eqb}
use Rattle.prelude.proofs.Bools.{two}
use Rattle.rules.specs.Marks.{pinned_mark}
use Rattle.marks.proofs.pins.Goals as goal

pub returns : goal.returns
unfolding pinned_mark
returns c =
    elim (two (eqb c.args.mark 1)) [
      | inl e ↦ elim (two (eqb c.args.mark 3)) [ inl f ↦ simp (e, f) | inr f ↦ simp (e, f) ]
      | inr e ↦ elim (two (eqb c.args.mark 3)) [ inl f ↦ simp (e, f) | inr f ↦ simp (e, f) ]
    ]
