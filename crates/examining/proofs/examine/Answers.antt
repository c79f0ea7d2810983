-- `examining::examine` meets its contract: by what the test says of the neighbourhood.
use mathlib.Core.Path.{◌≡◌, refl, ap, ◌∙◌, ap₂}
use mathlib.Core.Bool.{Bool, true, false, cond, ◌&&◌}
use Prim.Native.Nat.{ℕ}
use native.Mathlib.Omega.{arith}
use Rattle.cells.specs.Cells.{passes}
use Rattle.rules.specs.Status.{status_of, pending_byte, is_pending, rested, test_at, goes}
use Rattle.rules.specs.Marks.{marked}
use Rattle.rules.specs.Machine.{may_go}
use Rattle.rules.proofs.Topology.Bytes.{rested-pending}
use Rattle.bits.specs.Bits.{bits}
use Rattle.rules.specs.Neighbours.{Inner}
use Rattle.neighbourhood.proofs.Gathering.{block-test}
use Rattle.waking.specs.Waking.{idle_bit}
use Rattle.waking.proofs.Removal.{removed-from}
use Rattle.examining.proofs.Working.{pending-inner, written_as, gone-examined, rest-examined}
use Rattle.examining.proofs.examine.Goals as goal
use Rattle.examining.proofs.examine.Goals.{After-may_go, Start}

-- the voxel lies off the border
inner : (c : Start) → Inner c.args.s c.args.i
inner c = let p = c.requires.0 in pending-inner c.args.s c.args.status.now p.work c.args.i p.below p.pending

pub gather-block-requires : goal.gather-block-requires
gather-block-requires c = (inner (goal.at.gather-block-requires c).Start, c.requires.0.work.body.statuses)

pub passes-passes-requires : goal.passes-passes-requires
passes-passes-requires c = c.gather-block.ensures.rows

-- the test of what was gathered is the voxel's
passing :
    (c : After-may_go)
    → let a = c.args in c.passes-passes.result ≡ passes (test_at a.s a.status.now a.i)
passing c =
    let inner : Inner c.args.s c.args.i = let p = c.requires.0 in pending-inner c.args.s c.args.status.now p.work c.args.i p.below p.pending in
    let a = c.args in
    c.passes-passes.ensures ∙ ap passes (block-test a.s a.i (inner) a.status.now _ c.gather-block.ensures)

pub may_go-requires : goal.may_go-requires
may_go-requires c =
    let p = c.requires.0 in
    omega (arith, p.below, p.queue.lent.same, p.work.body.statuses.lent)

-- it goes, as the rule says
going :
    (c : After-may_go)
    → let a = c.args in
    (c.passes-passes.result && c.may_go.result) ≡ goes a.s (may_go (marked a.marks.now) a.dist.now) a.status.now a.i
unfolding goes
going c = ap₂ ◌&&◌ (passing c) c.may_go.ensures

-- a byte that is left is not pending
left-idle : (t : Bool) (x : ℕ) → pending_byte x ≡ true → pending_byte (cond t 0 (rested x)) ≡ false
unfolding pending_byte
left-idle true x e = refl
left-idle false x e = rested-pending x e

pub left-requires : goal.left-requires
unfolding is_pending
left-requires c =
    c.requires.0.pending

pub leave-rest-requires : goal.leave-rest-requires
unfolding is_pending
leave-rest-requires c =
    let a = c.args in
    record {
      queue = c.requires.0.queue;
      first = c.requires.0.first;
      pending = c.requires.0.pending;
      idle = ap pending_byte c.left.ensures
          ∙ left-idle (c.passes-passes.result && c.may_go.result) (status_of a.status.now a.i) c.requires.0.pending;
    }

pub wake_around-head-requires : goal.wake_around-head-requires
wake_around-head-requires c = (
  record { queue = c.leave-rest.ensures.queue; statuses = c.leave-rest.auto.status ∙ c.requires.0.work.body.statuses.lent; voxel = inner (goal.at.wake_around-head-requires c).Start },
  c.gather-block.ensures.rows,
  c.requires.1,
)

pub returns-then-gone : goal.returns-then-gone
returns-then-gone c =
    let a = c.args in
    let byte = c.left.ensures ∙ ap (λ (b : Bool). cond b 0 (rested (status_of a.status.now a.i))) c.if-gone.true in
    gone-examined a.s (marked a.marks.now) a.dist.now a.status.now _ _ _ _ _ a.i _ (going (goal.at.returns-then-gone c).After-may_go) c.if-gone.true
    (removed-from a.s (may_go (marked a.marks.now) a.dist.now) a.status.now a.i (inner (goal.at.returns-then-gone c).Start) c.requires.0.work.body.statuses.lent
    (ap (λ (x : ℕ). bits 54 (idle_bit x)) c.gather-block.ensures.code) refl (written_as c.leave-rest.ensures byte)
    c.wake_around-head.ensures.woken) c.wake_around-head.ensures.queue

pub returns-else-gone : goal.returns-else-gone
returns-else-gone c =
    let a = c.args in
    let byte = c.left.ensures ∙ ap (λ (b : Bool). cond b 0 (rested (status_of a.status.now a.i))) c.if-gone.false in
    rest-examined a.s (marked a.marks.now) a.dist.now a.status.now _ _ _ _ _ a.i _ (going (goal.at.returns-else-gone c).After-may_go) c.if-gone.false
    (written_as c.leave-rest.ensures byte) c.leave-rest.ensures.queue
