-- `queue::any_pending` meets its contract: the front or the index has a key exactly where a voxel is pending.
use mathlib.Core.Path.{◌≡◌, sym, ap, ◌∙◌}
use mathlib.Core.Bool.{not}
use mathlib.Core.List.{List}
use Prim.Native.Nat.{ℕ, ◌<◌}
use native.Mathlib.Omega.{arith}
use native.Mathlib.Decide.{ℕ_discrete}
use borrow.Author.Tests.{eq-eqb, ne_eqb}
use lib.Dec.{eqb}
use lib.IntN.{ℤ}
use lib.ListN.{length, get_or}
use Rattle.prelude.proofs.Ranges.{below-any, below_none}
use Rattle.cells.specs.Groups.{any}
use Rattle.rules.specs.Grid.{range}
use Rattle.rules.specs.Status.{is_pending}
use Rattle.rules.specs.Marks.{Marked, marked}
use Rattle.queue.specs.Queue.{Queue}
use Rattle.queue.proofs.Choosing.{first-own, root-pending, idle}
use Rattle.queue.proofs.any_pending.Goals as goal

positive : (w : ℕ) → (w ≡ 0 → ⊥) → 0 < w
positive w n = omega arith

-- an empty front: the root alone tells
rest :
    (m : Marked) (dist : List ℤ) (status offsets tree front : List ℕ) (head : ℕ) → Queue m dist status offsets tree front head → get_or front head 0 ≡ 0
    → not (eqb (get_or tree 1 0) 0) ≡ any (is_pending status) (range 0 (length status))
rest m dist status offsets tree front head Q z =
    elim (ℕ_discrete (get_or tree 1 0) 0) [
      | yes e ↦ ap not (eq-eqb (get_or tree 1 0) 0 e) ∙ sym (below_none (is_pending status) (length status) (idle m dist status offsets tree front head Q z e))
      | no n ↦ (
          let v = root-pending m dist status offsets tree front head Q z (positive _ n) in
          ap not (ne_eqb (get_or tree 1 0) 0 n) ∙ sym (below-any (is_pending status) (length status) v.0 v.1.inside v.1.pending)
          )
    ]

pub returns-then-front-head-ne0 : goal.returns-then-front-head-ne0
returns-then-front-head-ne0 c =
    let a = c.args in
    let v = first-own (marked a.marks.now) a.dist.now a.status.now a.offsets.now a.tree.now a.front.now a.head c.requires
    (positive _ c.if-front-head-ne0.true) in
    ap not (ne_eqb _ 0 c.if-front-head-ne0.true) ∙ sym (below-any (is_pending a.status.now) (length a.status.now) _ v.inside v.pending)

pub returns-else-front-head-ne0 : goal.returns-else-front-head-ne0
returns-else-front-head-ne0 c =
    let a = c.args in
    rest (marked a.marks.now) a.dist.now a.status.now a.offsets.now a.tree.now a.front.now a.head c.requires c.if-front-head-ne0.false
