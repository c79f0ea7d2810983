-- The turn of an entry of a removal list.
use Rattle.std.specs.Prelude.{List, ℕ, ltb, ℤ}
use Rattle.rules.specs.declared.Sides.{Sides}
use Rattle.watching.specs.Watching.{Since}
use Rattle.tallies.specs.declared.Tally.{Tally}

-- where there was an opening, none passed at the last one
abbrev pub Turn : Sides → List ℤ → List ℕ → List ℕ → Tally → Type 0
Turn s dist status list t = Since s dist status list (ltb 0 t.opened) t.last t.removed
