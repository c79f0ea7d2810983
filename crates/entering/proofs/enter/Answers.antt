-- `entering::enter` meets its contract: a pending voxel stays, and any other goes into the index or into the front.
use mathlib.Core.Path.{◌≡◌, sym, ap, ◌∙◌, subst}
use mathlib.Core.Bool.{true, false}
use lib.ListN.{set}
use Rattle.rules.specs.Marks.{marked}
use Rattle.rules.specs.Status.{pending_byte, is_pending}
use Rattle.rules.proofs.Topology.Bytes.{woken-pending}
use Rattle.queue.specs.Queue.{Queue}
use Rattle.queue.proofs.Changes.{woken-stays}
use Rattle.queue.proofs.Steps.{enter-raising, queue-raised, queue-inserted}
use Rattle.entering.proofs.enter.Goals as goal
use Rattle.entering.proofs.enter.Goals.{After-made_room-at, After-woken}

was-idle : (c : After-made_room-at) → let a = c.args in is_pending a.status.now a.j ≡ false
unfolding is_pending
was-idle c = sym c.is_pending.ensures ∙ c.if-is_pending.false

now-pending : (c : After-woken) → pending_byte c.woken.result ≡ true
now-pending c = ap pending_byte c.woken.ensures ∙ woken-pending _

pub returns-then-is_pending : goal.returns-then-is_pending
returns-then-is_pending c =
    record {
      status = woken-stays c.args.status.now c.args.j (unfold is_pending in sym c.is_pending.ensures ∙ c.if-is_pending.true);
      queue = c.requires.0;
    }

pub raise-requires : goal.raise-requires
raise-requires c =
    let a = c.args in
    enter-raising (marked a.marks.now) a.dist.now a.status.now _ _ _ _ c.made_room-at.ensures.0 a.j
    c.voxel_key-w.result c.requires.1

pub returns-then-w-tree : goal.returns-then-w-tree
returns-then-w-tree c =
    let a = c.args in
    record {
      status = ap (set a.status.now a.j) c.woken.ensures;
      queue = queue-raised (marked a.marks.now) a.dist.now a.status.now _ _ _ _ c.made_room-at.ensures.0 a.j c.woken.result _ c.requires.1
          (was-idle (goal.at.returns-then-w-tree c).After-made_room-at) (now-pending (goal.at.returns-then-w-tree c).After-woken) c.voxel_key-w.ensures c.if-w-tree.true _ _ c.raise.ensures;
    }

pub returns-else-w-tree : goal.returns-else-w-tree
returns-else-w-tree c =
    let a = c.args in
    record {
      status = ap (set a.status.now a.j) c.woken.ensures;
      queue =
          subst (Queue (marked a.marks.now) a.dist.now (set a.status.now a.j c.woken.result) _ _ _) (sym c.insert.ensures.1)
          (queue-inserted (marked a.marks.now) a.dist.now a.status.now _ _ _ _ c.made_room-at.ensures.0 a.j c.woken.result _ c.requires.1
          (was-idle (goal.at.returns-else-w-tree c).After-made_room-at) (now-pending (goal.at.returns-else-w-tree c).After-woken) c.voxel_key-w.ensures c.if-w-tree.false c.made_room-at.ensures.1 _ c.insert.ensures.0);
    }
