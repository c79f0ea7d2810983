-- `group_key` meets its contract: a group is whole, or ends with the last stretch.
use mathlib.Core.Path.{◌≡◌, ap}
use Prim.Native.Nat.{◌+◌, ◌-◌, ◌*◌}
use native.Mathlib.Omega.{arith}
use Rattle.rules.specs.Marks.{marked}
use Rattle.keys.specs.Key.{greatest}
use Rattle.keys.proofs.Greatest.{greatest-more, greatest-empty}
use Rattle.offsets.specs.Offsets.{held_key, group}
use Rattle.offsets.proofs.Held.{held-some}
use Rattle.offsets.proofs.group_key.Goals as goal

pub loop-k-init : goal.loop-k-init
loop-k-init c = greatest-empty _ _ _ (omega arith)

pub loop-k-preserved : goal.loop-k-preserved
loop-k-preserved c =
    let a = c.args in
    let first = group * a.q in
    let k = c.loop-k.k in
    let key = held_key (marked a.marks.now).hurried a.dist.now a.offsets.now in
    let n : k + 1 - first ≡ (k - first) + 1 = omega arith in
    let here : first + (k - first) ≡ k = omega arith in
    omega (arith, c.max-g.ensures, c.held_key.ensures, ap (greatest key first) n, greatest-more key first (k - first), ap key here)

pub returns : goal.returns
returns c =
    let a = c.args in
    held-some (marked a.marks.now).hurried _ _ a.q _ c.loop-k.g (omega (arith, c.min-end.ensures, c.count_stretches.ensures, c.requires.1))
    c.loop-k.invariant
