-- `work_distances` leaves what steps 1 to 3 say.
use native.Mathlib.Omega.{arith}
use mathlib.Core.List.{List}
use Prim.Native.Nat.{ℕ}
use Rattle.rules.specs.Fill.{filled}
use Rattle.rules.specs.Begin.{inside}
use Rattle.rules.proofs.Places.{Fit, fit}
use Rattle.distances.specs.Work.{Seeded}
use Rattle.beginning.proofs.Settling.{seeded, distanced}
use Rattle.beginning.proofs.work_distances.Goals as goal
use Rattle.beginning.proofs.work_distances.Goals.{After-find, Start}

fits : (s : Start) → Fit s.args.sides
fits s = fit s.args.sides s.requires.grid.sides

pub overflow_add-far : goal.overflow_add-far
overflow_add-far c = omega (arith, (fits (goal.at.overflow_add-far c).Start).a-high, (fits (goal.at.overflow_add-far c).Start).b-high, (fits (goal.at.overflow_add-far c).Start).c-high)

pub overflow_add-far-2 : goal.overflow_add-far-2
overflow_add-far-2 c = omega (arith, (fits (goal.at.overflow_add-far-2 c).Start).a-high, (fits (goal.at.overflow_add-far-2 c).Start).b-high, (fits (goal.at.overflow_add-far-2 c).Start).c-high)

pub overflow_cast-far : goal.overflow_cast-far
overflow_cast-far c = record { fits = omega (arith, (fits (goal.at.overflow_cast-far c).Start).a-high, (fits (goal.at.overflow_cast-far c).Start).b-high, (fits (goal.at.overflow_cast-far c).Start).c-high) }

abbrev S : Start → List ℕ
S s = inside s.args.sides (filled s.args.sides s.args.values.now)

-- S is labelled
labelled : (c : After-find) → Seeded c.args.sides (inside c.args.sides (filled c.args.sides c.args.values.now)) c.find.new.status
labelled c = seeded c.args.sides c.args.values.now c.requires.grid c.find.new.status _ (omega arith) c.find.ensures

pub measure-requires : goal.measure-requires
measure-requires c = (S (goal.at.measure-requires c).Start, labelled (goal.at.measure-requires c).After-find)

pub returns : goal.returns
returns c =
    distanced c.args.sides c.args.values.now c.requires.grid c.measure.new.d
    (c.measure.ensures (S (goal.at.returns c).Start) (labelled (goal.at.returns c).After-find)) c.greatest-m.result c.greatest-m.ensures.0
    _ c.fill.ensures
