-- `value_of`: the difference fits, since its size is at most 1,000.
use Rattle.practice.proofs.Values.{held_fits, held-value}
use Rattle.practice.proofs.value_of.Goals as goal

pub overflow_sub-result : goal.overflow_sub-result
overflow_sub-result c = held_fits c.args.s

pub returns : goal.returns
returns c = held-value c.args.s
