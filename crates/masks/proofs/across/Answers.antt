-- `across` meets its contract: of each eight bytes the pending bits, one beside those of the next eight.
use mathlib.Core.Path.{◌≡◌, ap, ◌∙◌}
use Prim.Native.Nat.{◌+◌, ◌*◌, ◌/◌, ◌%◌, ◌<◌}
use native.Mathlib.Omega.{arith}
use Rattle.rules.specs.Status.{is_pending}
use Rattle.masks.specs.Bits.{crossed}
use Rattle.masks.proofs.Crossing.{gathered}
use Rattle.masks.proofs.across.Goals as goal

pub returns : goal.returns
returns c = λ t h.
    let a = c.args.at in
    let xs = c.args.status.now in
    let l : t / 8 < 8 = omega arith in
    let z : a + t / 8 ≡ a + 8 * 0 + t / 8 = omega arith in
    let q : a + 8 * (t % 8) + t / 8 ≡ a + crossed t = omega arith in
    gathered t h (λ i. is_pending xs (a + 8 * i + t / 8)) _ _ _ _ _ _ _ _
    (c.load8.ensures.pending (t / 8) l ∙ ap (is_pending xs) z)
    (c.load8-2.ensures.pending (t / 8) l)
    (c.load8-3.ensures.pending (t / 8) l)
    (c.load8-4.ensures.pending (t / 8) l)
    (c.load8-5.ensures.pending (t / 8) l)
    (c.load8-6.ensures.pending (t / 8) l)
    (c.load8-7.ensures.pending (t / 8) l)
    (c.load8-8.ensures.pending (t / 8) l)
    ∙ ap (is_pending xs) q
