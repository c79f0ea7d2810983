-- Document 02's CR 5, "Long tunnels": how far from 0 a worked distance can lie.
use Rattle.std.specs.Prelude.{List, ℕ, ◌≤◌, nat_abs}
use Rattle.rules.specs.Grid.{distance_at}
use Rattle.rules.specs.Machine.{State}
use Rattle.rules.specs.Demand.{Promise, FromBegin, Call, run}

-- the range, and d, which is at most three sides of 64
abbrev pub farthest : ℕ
farthest = 1000000192

abbrev pub WithinRange : State → Type 0
WithinRange g = (i : ℕ) → nat_abs (distance_at g.dist i) ≤ farthest

-- after any list of calls (proofs/LongRange.antt): 32 bits hold every distance
abbrev pub WithinRangeAfter : Promise
WithinRangeAfter s T values marks start begun = (calls : List Call) → WithinRange (run calls begun).end

abbrev pub StaysWithinRange : Type 0
StaysWithinRange = FromBegin WithinRangeAfter
