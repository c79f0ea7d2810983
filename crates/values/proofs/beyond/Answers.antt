-- `beyond` is the rule's test.
use Rattle.values.proofs.Signs.{beyond-test}
use Rattle.values.proofs.beyond.Goals as goal

pub returns : goal.returns
returns c = beyond-test _ _ c.requires c.ranges.v
