-- `touched_cells::spaced_bits` meets its contract.
use Rattle.touched_cells.proofs.Spacing.{two-apart}
use mathlib.Core.Path.{ap, ◌∙◌}
use Prim.Native.Nat.{ℕ}
use Rattle.bits.specs.Bits.{has, bits, spaced}
use Rattle.touched_cells.proofs.spaced_bits.Goals as goal

pub returns : goal.returns
returns c = two-apart c.from-x.result ∙ ap (λ (k : ℕ). bits 54 (spaced (has k))) c.from-x.ensures
