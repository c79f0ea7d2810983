-- `held_key` meets its contract.
use mathlib.Core.Path.{sym, ap, ◌∙◌, subst}
use Prim.Native.Nat.{ℕ, ◌+◌, ◌*◌, ◌%◌, ◌≤◌, ◌<◌}
use Rattle.rules.specs.Marks.{marked}
use Rattle.keys.specs.Key.{voxel_key}
use Rattle.offsets.proofs.Held.{held_on, held-off}
use Rattle.offsets.proofs.held_key.Goals as goal

pub returns-then-o-lt-WIDTH : goal.returns-then-o-lt-WIDTH
returns-then-o-lt-WIDTH c =
    let a = c.args in
    let h = (marked a.marks.now).hurried in
    let e = c.from-o.ensures in
    c.voxel_key-w.ensures
    ∙ ap (λ (o : ℕ). voxel_key h a.dist.now (64 * a.k + o % 64)) e
    ∙ sym (held_on h _ a.offsets.now a.k (subst (λ (o : ℕ). o < 64) e c.if-o-lt-WIDTH.true))

pub returns-else-o-lt-WIDTH : goal.returns-else-o-lt-WIDTH
returns-else-o-lt-WIDTH c =
    let a = c.args in
    sym (held-off (marked a.marks.now).hurried a.dist.now a.offsets.now a.k (subst (λ (o : ℕ). 64 ≤ o) c.from-o.ensures c.if-o-lt-WIDTH.false))
