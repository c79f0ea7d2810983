-- `scans::used_span` meets its contract: a status other than 0 has a bit.
use mathlib.Core.Bool.{not}
use lib.Dec.{eqb}
use Rattle.scans.specs.Scans.{used_at}
use Rattle.loops.proofs.Joining.{nonzero-test}
use Rattle.scans.proofs.used_span.Goals as goal

pub returns : goal.returns
unfolding used_at
returns c = c.joined.ensures.each (λ x. not (eqb x 0)) nonzero-test
