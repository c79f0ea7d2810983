-- `advanced`: the wrapping sum is the sum's remainder.
use Rattle.std.proofs.Common.{rules}
use Rattle.practice.specs.Practice.{advanced}
use Rattle.practice.proofs.advanced.Goals as goal

pub returns : goal.returns
unfolding advanced
returns c = search rules
