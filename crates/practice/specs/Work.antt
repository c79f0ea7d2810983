-- What the code makes of the values in two passes: those of the generator, border or not, and then the border's.
use Rattle.std.specs.Prelude.{ℕ, suc, cond, ℤ, pos}
use Rattle.rules.specs.declared.Sides.{Sides}
use Rattle.rules.specs.Grid.{on_border}
use Rattle.practice.specs.Practice.{s_after, value_of}

abbrev pub drawn_at : ℕ → ℕ → ℤ
drawn_at seed i = value_of (s_after seed (suc i))

-- a value d at index i, with the border's put over it
abbrev pub framed_at : Sides → ℕ → ℤ → ℤ
framed_at sides i d = cond (on_border sides i) (pos 1000) d
