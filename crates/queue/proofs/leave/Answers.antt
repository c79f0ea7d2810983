-- `queue::leave` meets its contract.
use mathlib.Core.Path.{refl}
use Rattle.rules.specs.Marks.{marked}
use Rattle.keys.proofs.Ranks.{pending-inside}
use Rattle.queue.proofs.Steps.{queue-left}
use Rattle.queue.proofs.leave.Goals as goal

pub bounds-status-i : goal.bounds-status-i
bounds-status-i c = pending-inside c.args.status.now c.args.i c.requires.pending

pub returns : goal.returns
returns c =
    let a = c.args in
    record {
      status = refl;
      queue = queue-left (marked a.marks.now) a.dist.now a.status.now a.offsets.now a.tree.now a.front.now a.head c.requires.queue
          a.i a.s c.requires.first c.requires.pending c.requires.idle;
    }
