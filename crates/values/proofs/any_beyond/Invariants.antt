-- `any_beyond`: what is found before v, or stands from v on, is what stands in all.
use mathlib.Core.Path.{◌≡◌}
use mathlib.Core.Bool.{◌||◌}
use lib.ListN.{drop}
use Rattle.prelude.specs.Lists.{any}
use Rattle.rules.specs.Value.{beyond}
use Rattle.values.proofs.any_beyond.Given as goal

abbrev pub invariant-loop-v : goal.invariant-loop-v
invariant-loop-v l = (l.found || any (beyond l.bound) (drop l.v-index l.values)) ≡ any (beyond l.bound) l.values
