-- `queue::build` meets its contract.
use Rattle.rules.specs.Marks.{marked}
use Rattle.queue.proofs.Steps.{queue-start}
use Rattle.queue.proofs.build.Goals as goal

pub returns : goal.returns
returns c =
    queue-start (marked c.args.marks.now) c.args.dist.now c.args.status.now _ _ c.args.front.now c.build.ensures c.requires.list
