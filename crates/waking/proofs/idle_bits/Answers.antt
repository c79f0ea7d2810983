-- `waking::idle_bits` meets its contract.
use mathlib.Core.Path.{ap, ◌∙◌}
use Prim.Native.Nat.{ℕ}
use Rattle.bits.specs.Bits.{bits}
use Rattle.waking.specs.Waking.{idle_bit}
use Rattle.waking.proofs.Idle.{idle-bits}
use Rattle.waking.proofs.idle_bits.Goals as goal

pub returns : goal.returns
returns c = idle-bits c.code_of-code.result ∙ ap (λ (code : ℕ). bits 54 (idle_bit code)) c.code_of-code.ensures
