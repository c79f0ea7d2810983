-- `part_carving::carve` meets its contract: carve's equation of the parts, with the bytes around them.
use mathlib.Core.Path.{◌≡◌, ap}
use mathlib.Core.List.{List}
use Prim.Native.Nat.{ℕ}
use lib.IntN.{ℤ}
use Rattle.rules.specs.declared.Record.{Record}
use Rattle.rules.specs.declared.Carving.{Carving}
use Rattle.rules.specs.Answer.{Outcome, Buffers}
use Rattle.rules.specs.Machine as machine
use Rattle.rules.specs.Machine.{state}
use Rattle.part_carving.specs.Part.{part, spliced}
use Rattle.part_carving.proofs.carve.Goals as goal

-- carve of the parts
abbrev of_parts : Record → List ℤ → List ℕ → List ℕ → ℕ → ℕ → ℕ → Outcome Buffers Carving
of_parts given dist status marks from to limit = machine.carve (part marks from to) limit (state given (part dist from to) (part status from to))

spliced-same : (given : Record) (dist : List ℤ) (status marks : List ℕ) (from to limit : ℕ) (o : Outcome Buffers Carving)
    → o ≡ of_parts given dist status marks from to limit
    → spliced status from to o ≡ spliced status from to (of_parts given dist status marks from to limit)
spliced-same given dist status marks from to limit o e = ap (spliced status from to) e

pub returns : goal.returns
returns c =
    let a = c.args in
    spliced-same a.given a.dist.now a.status.now a.marks.now a.from a.to a.limit _ c.carve_checked.ensures
