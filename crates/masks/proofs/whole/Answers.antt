-- `whole` meets its contract: what stands across is transposed, but where it is nothing.
use mathlib.Core.Path.{◌≡◌, ap, sym, ◌∙◌}
use Prim.Native.Nat.{ℕ, ◌+◌, ◌<◌}
use native.Mathlib.Omega.{arith}
use lib.Dec.{lit<}
use Rattle.bits.specs.Bits.{has}
use Rattle.rules.specs.Status.{is_pending}
use Rattle.masks.specs.Bits.{crossed}
use Rattle.masks.proofs.Crossing.{has-none, apart-7, apart-14, apart-28, transposed}
use Rattle.masks.proofs.whole.Goals as goal
use Rattle.masks.proofs.whole.Goals.{After-across-x}

stands : (c : After-across-x) (t : ℕ) → t < 64
    → has c.across-x.result (crossed t) ≡ is_pending c.args.status.now (c.args.at + t)
stands c t h =
    let back : c.args.at + crossed (crossed t) ≡ c.args.at + t = omega arith in
    c.across-x.ensures (crossed t) (omega arith) ∙ ap (is_pending c.args.status.now) back

pub returns-then-x-eq0 : goal.returns-then-x-eq0
returns-then-x-eq0 c = λ t h. has-none t ∙ sym (ap (λ (x : ℕ). has x (crossed t)) c.if-x-eq0.true ∙ has-none (crossed t)) ∙ stands (goal.at.returns-then-x-eq0 c).After-across-x t h

pub exchange-near-requires : goal.exchange-near-requires
exchange-near-requires c = record { short = omega arith; fits = lit< tt; apart = apart-7 }

pub exchange-far-requires : goal.exchange-far-requires
exchange-far-requires c = record { short = omega arith; fits = lit< tt; apart = apart-14 }

pub exchange-requires : goal.exchange-requires
exchange-requires c = record { short = omega arith; fits = lit< tt; apart = apart-28 }

pub returns-else-x-eq0 : goal.returns-else-x-eq0
returns-else-x-eq0 c = λ t h.
    let T = transposed t h in
    c.exchange.ensures t h
    ∙ c.exchange-far.ensures _ T.last-in
    ∙ c.exchange-near.ensures _ T.middle-in
    ∙ ap (has c.across-x.result) T.is
    ∙ stands (goal.at.returns-else-x-eq0 c).After-across-x t h
