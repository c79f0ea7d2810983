-- `negative` is the rule's test.
use Rattle.values.proofs.Signs.{negative-test}
use Rattle.values.proofs.negative.Goals as goal

pub returns : goal.returns
returns c = negative-test _ c.ranges.v
