-- `entries::put_back` meets its contract: r entries are left to put back.
use mathlib.Core.Path.{◌≡◌}
use Rattle.entries.specs.Entries.{put_back}
use Rattle.entries.proofs.put_back.Given as goal

abbrev pub invariant-loop-r : goal.invariant-loop-r
invariant-loop-r l = put_back l.list l.r l.status ≡ put_back l.list l.entries l.initial.status
