-- What follows from demand 3: kept and removed voxels make up the body at the start, and with T = 0 the body is closed.
use mathlib.Core.Path.{ap, sym, ◌∙◌, ◌≡◌}
use native.Mathlib.Omega.{arith}
use Rattle.rules.specs.declared.Sides.{Sides}
use Rattle.rules.specs.Meaning.{found}
use Rattle.rules.specs.Status.{is_kept}
use Rattle.rules.specs.Marks.{marked}
use Rattle.rules.specs.Demand.{run}
use Rattle.rules.specs.Corollaries.{CountedAfter, KeptAndRemoved, ClosedAfter, ClosedWithoutOpenings}
use Rattle.rules.proofs.Demand.{start_state, FromStart, keeps-after, demand-after, from-begin}
use Rattle.rules.proofs.NeverUnfit.{end-fit}

pub counted-after : FromStart CountedAfter
counted-after s T values marks start from calls =
    let keeps = keeps-after s values start from T (marked marks) calls in
    let status = (run calls (start_state s T values (marked marks) start)).end.status in
    let e = ap (λ (t : Sides). found t (is_kept status)) keeps.adds.sides in
    omega (arith, keeps.good.sound.inv.spent, keeps.adds.removals)

pub kept-and-removed : KeptAndRemoved
kept-and-removed = from-begin CountedAfter counted-after

pub closed_after : FromStart ClosedAfter
closed_after s T values marks start from zero calls =
    let answers = (run calls (start_state s T values (marked marks) start)).answers in
    let demand = demand-after s T values marks start from calls in
    let allowed = (keeps-after s values start from T (marked marks) calls).adds.allowed in
    let none : answers.opened ≡ 0 = omega (arith, (end-fit s values start from T (marked marks) calls).openings, demand.openings-count) in
    record {
      background-one-piece = demand.background-one-piece;
      body-one-piece = demand.unopened-one-piece none;
      euler-one = sym demand.euler-of-body ∙ demand.unopened-euler none;
    }

pub closed-without-openings : ClosedWithoutOpenings
closed-without-openings = from-begin ClosedAfter closed_after
