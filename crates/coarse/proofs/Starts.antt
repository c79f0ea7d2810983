-- What every start promises, an accepted grid does, whichever call accepted it.
use mathlib.Core.List.{List}
use lib.IntN.{ℤ}
use Rattle.rules.specs.declared.Sides.{Sides}
use Rattle.rules.specs.Machine.{State}
use Rattle.rules.specs.Demand.{Promise}
use Rattle.rules.proofs.Demand.{FromStart, from-begin}
use Rattle.coarse.specs.Starts.{AcceptedGrid, plain, coarse, handed_by, Promised}
use Rattle.coarse.proofs.Promises.{from-coarse}

pub promised : (P : Promise) → FromStart P → {s : Sides} {values : List ℤ} (a : AcceptedGrid s values) → Promised P a
promised P holds {s} {values} (plain T marks dist status r e) = from-begin P holds s T values marks dist status r e
promised P holds {s} {values} (coarse T marks lent c e) = from-coarse P holds s T values marks lent c e

-- one that is about the state alone
pub of-handed : (P : State → Type 0) → FromStart (λ s T values marks start g. P g) → {s : Sides} {values : List ℤ} (a : AcceptedGrid s values)
    → P (handed_by a)
of-handed P holds (plain T marks dist status r e) = promised (λ s T values marks start g. P g) holds (plain T marks dist status r e)
of-handed P holds (coarse T marks lent c e) = promised (λ s T values marks start g. P g) holds (coarse T marks lent c e)
