-- `first_of`: what is passed over, and then the first of the rest.
use Rattle.std.proofs.Common.{◌≡◌, ◌+◌, rules, slice_range}
use Rattle.std.specs.Option.{option_map}
use Rattle.loops.proofs.Searching.{FirstIn, first_found}
use Rattle.loops.proofs.first_of.Goals as goal

pub returns : goal.returns
returns c =
    let a = c.args in
    let start = c.passed-start.result in
    let found : FirstIn (slice_range a.bytes.now start a.end) a.v c.position.result = search rules in
    let m = c.map.result in
    let at : m ≡ option_map (λ i. start + i) c.position.result = search rules in
    first_found a.bytes.now a.v start a.end c.passed-start.ensures.high c.requires.1 a.first c.position.result m found at c.passed-start.ensures
