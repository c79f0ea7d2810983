-- `entering::made_room` meets its contract.
use native.Mathlib.Omega.{arith}
use Rattle.rules.specs.Marks.{marked}
use Rattle.queue.proofs.Steps.{room-made}
use Rattle.entering.proofs.made_room.Goals as goal

pub returns-else-head-gt0 : goal.returns-else-head-gt0
returns-else-head-gt0 c =
    let a = c.args in
    (room-made (marked a.marks.now) a.dist.now a.status.now _ _ _ a.head c.spill.ensures.queue c.spill.ensures.empty, omega arith)
