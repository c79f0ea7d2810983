-- `entering::spill` meets its contract.
use mathlib.Core.Path.{◌≡◌, sym, subst}
use mathlib.Core.Bool.{Bool}
use mathlib.Core.List.{List}
use Prim.Native.Nat.{ℕ}
use lib.IntN.{ℤ}
use Rattle.rules.specs.Marks.{marked}
use Rattle.pending.specs.Index.{Raising, Raised}
use Rattle.queue.proofs.Steps.{end_is, spilling-start, spill-some, spill-raising, spilling-step}
use Rattle.entering.proofs.spill.Goals as goal

-- of the voxel, as code has it
raised_at : (hurried : ℕ → Bool) (dist : List ℤ) (offsets offsets1 tree tree1 : List ℕ) (w : ℕ) {i j : ℕ} → i ≡ j
    → Raised hurried dist offsets offsets1 tree tree1 i w → Raised hurried dist offsets offsets1 tree tree1 j w
raised_at hurried dist offsets offsets1 tree tree1 w e R = subst (λ (x : ℕ). Raised hurried dist offsets offsets1 tree tree1 x w) e R

pub loop-e-init : goal.loop-e-init
loop-e-init c =
    let a = c.args in
    let r = c.end_of-e.ensures in
    spilling-start (marked a.marks.now) a.dist.now a.status.now a.offsets.now a.tree.now a.front.now a.head _ c.requires
    (end_is (marked a.marks.now) a.dist.now a.status.now a.offsets.now a.tree.now a.front.now a.head c.requires _ r.0 r.1 r.2
    r.3)

pub voxel-requires : goal.voxel-requires
voxel-requires c =
    let a = c.args in
    let k = c.loop-e in
    spill-some (marked a.marks.now) a.dist.now a.status.now a.offsets.now a.tree.now a.front.now k.offsets k.tree k.front
    a.head k.e k.invariant c.loop-e-test.true

pub raise-requires : goal.raise-requires
raise-requires c =
    let a = c.args in
    let k = c.loop-e in
    subst (Raising a.dist.now k.offsets k.tree) (sym c.voxel.ensures.0)
    (spill-raising (marked a.marks.now) a.dist.now a.status.now a.offsets.now a.tree.now a.front.now k.offsets k.tree
    k.front a.head k.e k.invariant c.loop-e-test.true)

pub loop-e-preserved : goal.loop-e-preserved
loop-e-preserved c =
    let a = c.args in
    let k = c.loop-e in
    spilling-step (marked a.marks.now) a.dist.now a.status.now a.offsets.now a.tree.now a.front.now k.offsets k.tree
    k.front a.head k.e k.invariant c.loop-e-test.true _ _
    (raised_at _ _ _ _ _ _ _ c.voxel.ensures.0 c.raise.ensures) c.raise.auto.offsets c.raise.auto.tree
