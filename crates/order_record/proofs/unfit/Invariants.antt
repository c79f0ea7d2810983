-- `order_record::unfit` meets its contract: what is wrong is wrong from k on.
use mathlib.Core.Path.{◌≡◌}
use lib.ListN.{drop}
use Rattle.order_record.proofs.Places.{wrong}
use Rattle.order_record.proofs.unfit.Given as goal

abbrev pub invariant-loop-k : goal.invariant-loop-k
invariant-loop-k l = wrong l.count l.all ≡ wrong l.count (drop l.k l.all)
