-- `rest` meets its contract: from the last byte down.
use mathlib.Core.Path.{refl}
use Prim.Native.Nat.{◌<◌}
use native.Mathlib.Omega.{arith}
use Rattle.rules.specs.Status.{is_pending}
use Rattle.masks.proofs.Loading.{gathering-start, gathering-small, gathering-step, gathering-done}
use Rattle.masks.proofs.rest.Goals as goal
use Rattle.masks.proofs.rest.Goals.{In-loop-j}

pub loop-j-init : goal.loop-j-init
loop-j-init c = gathering-start _ _ c.requires.0 _ refl

-- so that twice the number fits
small : (c : In-loop-j) → c.loop-j.m < 9223372036854775808
small c =
    let l = c.loop-j in
    gathering-small _ _ c.requires.1 l.m l.j c.loop-j-test.true l.invariant

pub overflow_mul-m : goal.overflow_mul-m
overflow_mul-m c =
    let m = small c in
    record { fits = omega arith }

pub overflow_add-m : goal.overflow_add-m
overflow_add-m c =
    let m = small (goal.at.overflow_add-m c).In-loop-j in
    record { fits = omega (arith, c.pending_bit.ensures.1) }

pub loop-j-preserved : goal.loop-j-preserved
unfolding is_pending
loop-j-preserved c =
    let l = c.loop-j in
    gathering-step _ _ l.m l.j _ _ _ refl c.loop-j-test.true c.pending_bit.ensures.0 (omega arith) l.invariant

pub returns : goal.returns
returns c =
    let l = c.loop-j in
    gathering-done _ _ l.m l.j c.loop-j-test.false l.invariant
