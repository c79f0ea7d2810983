-- `last_of`: the last of the part from first up to end.
use Rattle.std.proofs.Common.{◌≡◌, ◌+◌, rules, slice_range}
use Rattle.std.specs.Option.{option_map}
use Rattle.loops.proofs.Searching.{LastIn, last_found}
use Rattle.loops.proofs.last_of.Goals as goal

pub returns : goal.returns
returns c =
    let a = c.args in
    let found : LastIn (slice_range a.bytes.now a.first a.end) a.v c.rposition.result = search rules in
    let m = c.map.result in
    let at : m ≡ option_map (λ i. a.first + i) c.rposition.result = search rules in
    last_found a.bytes.now a.v a.first a.end c.requires.0 c.requires.1 c.rposition.result m found at
